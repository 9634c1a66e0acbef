pub mod Joined
mod Spelled
mod Filling
mod Worked
