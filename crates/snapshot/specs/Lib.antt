pub mod Snapshot
pub mod Asked
pub mod Places
pub mod Claim
