pub mod Waiting
pub mod Taken
