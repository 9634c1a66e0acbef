-- Laws on what an exposure leaves and on the stores of a loop, each in its own file.
-- Assumes nothing.
pub mod After
pub mod Stores
