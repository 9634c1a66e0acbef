pub mod Bits
pub mod Waits
pub mod Supplies
pub mod Verify
pub mod Blocks
