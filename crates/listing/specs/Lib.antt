pub mod Calls
pub mod Replaying
pub mod Held
pub mod Claim
