-- What the readings give at one level
pub mod ReadLemmas
-- One more member of a list, in a loop over its members
pub mod ListLemmas
-- Runs of the copy rule, step by step
pub mod Runs
-- Worked runs
pub mod Rows
