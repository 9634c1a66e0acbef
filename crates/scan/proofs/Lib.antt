pub mod Turns
pub mod Charges
pub mod States
