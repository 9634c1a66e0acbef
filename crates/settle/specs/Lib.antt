pub mod Pages
pub mod Settling
pub mod Words
pub mod Tallies
pub mod Views
