pub mod Text
pub mod Words
pub mod Names
pub mod Values
