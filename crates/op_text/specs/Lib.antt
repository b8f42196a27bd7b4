pub mod Found
pub mod Percent
pub mod Digits
pub mod Operations
pub mod Writes
pub mod Answers
pub mod Nodes
