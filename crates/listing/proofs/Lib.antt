pub mod Claimed
pub mod Going
pub mod Holding
pub mod Numbers
pub mod Steps
