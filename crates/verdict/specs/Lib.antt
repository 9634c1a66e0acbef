-- What the desk counts of the pages of a flash. Which page is in which state is `flash` Looking: `page_states`.
-- Assumes nothing.
pub mod States
