pub mod Fitted
pub mod Holding
pub mod Lines
pub mod Looks
pub mod Tells
