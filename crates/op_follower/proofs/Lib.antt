pub mod Gaps
pub mod PartRows
