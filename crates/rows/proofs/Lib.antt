pub mod Widths
pub mod Flags
pub mod Runs
pub mod Packed
pub mod Values
pub mod Bytes
