pub mod Laws
pub mod Learning
