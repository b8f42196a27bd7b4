pub mod Deletes
pub mod Entries
pub mod Overlays
pub mod Shown
