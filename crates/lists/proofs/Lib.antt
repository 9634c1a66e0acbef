-- Laws on lists and choices, each in its own file.
-- Assumes nothing.
pub mod Bools
pub mod Chunks
pub mod Stores
pub mod Maps
pub mod Partly
pub mod Table
