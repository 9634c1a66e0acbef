pub mod Answers
pub mod Blank
pub mod Fresh
pub mod Inside
pub mod Look
pub mod Performs
pub mod Room
