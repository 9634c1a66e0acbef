pub mod Arguments
pub mod Options
pub mod Inside
