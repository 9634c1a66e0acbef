-- The bytes of a piece that are moved to the line. Assumes nothing.
pub mod Feeding
