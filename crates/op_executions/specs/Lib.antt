pub mod Deeds
pub mod Failing
pub mod Ids
pub mod Laws
pub mod PlainRuns
pub mod Servers
pub mod Worlds
