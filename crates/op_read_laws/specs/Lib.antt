pub mod Fresh
pub mod Told
pub mod Once
