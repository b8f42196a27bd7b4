pub mod Growing
pub mod Logs
pub mod Parts
pub mod Session
pub mod Leading
mod WorkedRounds
