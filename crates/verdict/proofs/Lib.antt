-- Laws on what is counted.
-- Assumes nothing.
pub mod Pages
