pub mod Filled
pub mod Runs
pub mod Told
