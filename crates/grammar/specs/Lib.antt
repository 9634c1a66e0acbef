pub mod Grammar
pub mod Worked
