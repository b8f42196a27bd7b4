pub mod Services
pub mod Written
