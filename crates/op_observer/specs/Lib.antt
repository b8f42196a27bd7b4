pub mod Observers
pub mod Plans
