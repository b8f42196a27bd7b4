pub mod Became
pub mod Disks
pub mod Nodes
pub mod Plans
