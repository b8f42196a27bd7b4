pub mod KeyOrder
pub mod Fits
pub mod Sessions
