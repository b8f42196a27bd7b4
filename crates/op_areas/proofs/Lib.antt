pub mod Anew
pub mod Braced
pub mod Disks
pub mod Pairs
