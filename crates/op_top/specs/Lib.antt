pub mod Clusters
pub mod Tasks
pub mod Sessions
