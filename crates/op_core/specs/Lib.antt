pub mod NodeCores
pub mod Disks
pub mod Groups
