pub mod Tiling
pub mod Places
