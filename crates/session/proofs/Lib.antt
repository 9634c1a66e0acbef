pub mod Gone
pub mod Claimed
