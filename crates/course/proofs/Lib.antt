pub mod Claimed
pub mod Demanded
pub mod Complaining
