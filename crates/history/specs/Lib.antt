pub mod History
pub mod Claim
