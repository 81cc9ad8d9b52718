-- The blanks at the end of a text
pub mod BlankLemmas
-- Meets of two members, and of another number
pub mod TypeLemmas
