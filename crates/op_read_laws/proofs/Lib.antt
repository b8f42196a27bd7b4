pub mod Happened
pub mod Moments
pub mod Holding
pub mod NextMoment
pub mod ReadsFresh
pub mod ReadsTold
pub mod ReadsOnce
