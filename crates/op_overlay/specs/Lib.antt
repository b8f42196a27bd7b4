pub mod Entries
pub mod Overlays
