pub mod Knowing
pub mod Going
pub mod Steps
pub mod Written
pub mod Stopping
pub mod Counting
pub mod Ends
