pub mod Links
pub mod Scenarios
pub mod Draws
