pub mod Runs
pub mod Turns
pub mod Looks
pub mod Stands
pub mod Ends
pub mod Follows
