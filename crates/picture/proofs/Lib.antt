-- Laws on outputs, charges, marks and shades, each in its own file.
-- Assumes nothing.
pub mod Written
pub mod Held
pub mod Marked
pub mod Steps
