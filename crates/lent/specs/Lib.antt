pub mod Memory
pub mod Asked
pub mod Looked
pub mod Held
pub mod Views
