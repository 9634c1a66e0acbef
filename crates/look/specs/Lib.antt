-- What a look at a time sees.
-- Assumes nothing.
pub mod Views
