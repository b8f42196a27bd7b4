pub mod Courses
pub mod Failing
pub mod Forms
pub mod Grammar
pub mod Pieces
pub mod Summaries
pub mod Text
