pub mod Marks
pub mod Limits
