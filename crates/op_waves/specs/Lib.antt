pub mod Waves
pub mod Leading
