pub mod UnambiguousEncoding
pub mod PlainBytes
pub mod DecodedBytes
pub mod FoundAlike
pub mod Operations
pub mod Rests
pub mod Digits
pub mod WriteWords
