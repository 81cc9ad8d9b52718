-- The order of entries, and where one more goes
pub mod EntryLemmas
-- Which entries a search in order finds
pub mod FoundLemmas
-- Two lists that have the same members, and membership as a test
pub mod NodeLemmas
-- What each test of a code tells of it
pub mod ValidLemmas
-- Straight code comes to the same where its cells are read in the same way
pub mod StraightLemmas
