pub mod Answers
pub mod Report
