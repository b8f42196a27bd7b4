pub mod NodeCores
pub mod Disks
pub mod Came
pub mod Gathered
pub mod Runs
pub mod Takings
