-- Contexts and rows, the newest first
pub mod Stacks
-- Sizes of lists of phrases, in a loop over their members
pub mod SizeLemmas
-- A step keeps depths, loads and numbers
pub mod Keeping
-- Runs of the copy rule over a source and a sink, with their greatest load
pub mod Ending
-- Parts by number, rows from the newest on, and what they hold
pub mod StoreLemmas
-- Counts of cells that datums say, and what they lead to
pub mod FillLemmas
-- Steps by the form in focus, and ends
pub mod Forms
