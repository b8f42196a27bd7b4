pub mod Runs
pub mod Taking
pub mod Hearing
pub mod Waiting
pub mod Telling
pub mod Behind
