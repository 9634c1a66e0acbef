pub mod Layout
pub mod Whole
