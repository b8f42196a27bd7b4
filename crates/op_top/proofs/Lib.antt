pub mod ClusterEnds
pub mod Tasks
