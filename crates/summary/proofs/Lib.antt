-- Laws on lines that are put one after the other, on how long a report is, and lines as they are printed, each in its own file.
-- Assumes nothing.
pub mod Lines
pub mod Fits
mod Worked
