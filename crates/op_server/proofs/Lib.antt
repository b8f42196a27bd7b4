pub mod Adopts
pub mod Answers
pub mod Asks
pub mod Planned
pub mod Sound
pub mod Seats
