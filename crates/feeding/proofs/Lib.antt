pub mod Reading
mod Line
