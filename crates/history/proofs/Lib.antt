pub mod Range
pub mod Kept
