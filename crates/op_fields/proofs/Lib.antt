pub mod Formats
pub mod ItemSteps
pub mod Prefixes
pub mod Composites
pub mod Choices
pub mod Takes
