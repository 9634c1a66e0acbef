pub mod Loaded
pub mod Taken
