pub mod Becoming
pub mod Doings
pub mod Happenings
pub mod NodeDisks
pub mod Openings
