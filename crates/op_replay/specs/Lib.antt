pub mod Replay
pub mod Called
pub mod Answers
