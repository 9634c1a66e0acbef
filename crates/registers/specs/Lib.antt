pub mod Fields
pub mod Access
pub mod Latch
pub mod Pulses
pub mod Environment
pub mod Calls
