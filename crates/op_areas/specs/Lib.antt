pub mod Areas
pub mod Bracing
pub mod Calls
pub mod Disks
pub mod Media
pub mod Openings
pub mod Pairs
