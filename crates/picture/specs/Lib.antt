-- What a look shows of all pages or all cells at once: a mark for each page, a shade for each cell.
-- Assumes nothing.
pub mod Outputs
pub mod Shades
pub mod Marks
