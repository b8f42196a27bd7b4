pub mod Driver
pub mod Dealing
pub mod Answering
pub mod Ungiven
