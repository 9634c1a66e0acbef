-- Calls that wait: how they are noted, and what running some of them gives back and leaves.
-- Assumes nothing.
pub mod Noting
pub mod Serving
