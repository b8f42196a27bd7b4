pub mod FirstShown
pub mod Lacked
