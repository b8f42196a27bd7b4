pub mod Messages
pub mod States
pub mod Laws
pub mod Owners
