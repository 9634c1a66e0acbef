pub mod Words
pub mod Lying
pub mod Reading
