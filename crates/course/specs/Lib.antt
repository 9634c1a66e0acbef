-- A run of a history, in three steps: what is counted, what a line does, and what the bytes of the text do.
-- Assumes nothing.
pub mod Bounds
pub mod Course
pub mod Desk
pub mod Reader
pub mod Claim
pub mod Demand
pub mod Views
