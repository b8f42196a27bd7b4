pub mod Rules
pub mod Run
pub mod Called
pub mod Following
