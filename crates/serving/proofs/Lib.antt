-- Laws on calls that wait.
-- Assumes nothing.
pub mod Quiet
pub mod Answered
