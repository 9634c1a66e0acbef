pub mod Lights
pub mod Onward
