pub mod Form
pub mod Reads
pub mod Taken
pub mod Counted
pub mod Prefixes
pub mod Items
