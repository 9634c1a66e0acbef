-- The report of a run, as the program prints it.
-- Assumes nothing.
pub mod Summary
pub mod Reported
