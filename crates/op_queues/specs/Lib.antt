pub mod Hearing
pub mod Gathering
pub mod Filling
pub mod Counted
pub mod Asked
