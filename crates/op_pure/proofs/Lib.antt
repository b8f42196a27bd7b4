pub mod Finding
pub mod NodeSteps
pub mod NodesDone
pub mod Runs
