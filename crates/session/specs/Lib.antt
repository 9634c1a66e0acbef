pub mod Pieces
pub mod Going
pub mod Claim
