pub mod Applying
pub mod Shown
pub mod Stated
pub mod Adopted
pub mod Heard
pub mod Hearing
pub mod Prepared
