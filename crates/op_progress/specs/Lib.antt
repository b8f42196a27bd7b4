pub mod Progress
pub mod Deciding
pub mod Trimmed
