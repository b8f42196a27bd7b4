pub mod Orders
pub mod Rows
pub mod Ticks
pub mod Steps
pub mod Keeping
pub mod Sound
pub mod Worlds
pub mod Behind
pub mod Groups
pub mod Settling
pub mod Whole
pub mod Deciding
pub mod Trimmed
mod WorkedRounds
