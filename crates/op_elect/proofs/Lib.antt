pub mod Rising
pub mod Ends
pub mod Found
