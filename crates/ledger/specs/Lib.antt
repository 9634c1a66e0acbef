pub mod Words
pub mod Ledger
pub mod Lists
pub mod Claim
pub mod Worked
pub mod Reached
