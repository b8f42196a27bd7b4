pub mod Bases
pub mod Decided
pub mod Slices
