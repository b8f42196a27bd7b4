pub mod Answering
pub mod Bringing
pub mod Chains
pub mod Leads
pub mod Plans
pub mod Waiting
pub mod Trimming
