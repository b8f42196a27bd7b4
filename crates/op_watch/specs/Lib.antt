pub mod Showing
pub mod Plans
pub mod Basing
