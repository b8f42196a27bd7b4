pub mod Answering
pub mod Asking
pub mod Servers
pub mod Plans
pub mod Seats
