pub mod Chip
pub mod Looking
pub mod Views
