pub mod Happenings
pub mod Nodes
pub mod Runs
pub mod Worlds
