pub mod Spelled
pub mod Next
pub mod Sums
pub mod Below
