pub mod Back
pub mod Accepted
