pub mod Elections
pub mod States
