-- A list with as many paths as it has when each stands once, is that list; and what a form says of its paths
pub mod EachLemmas
-- A list in which each path stands once is no larger than with repeats
pub mod SmallerLemmas
-- Answers of equal pairs
pub mod MemoLemmas
-- How a procedure takes arguments that have the paths of a base
pub mod BaseLemmas
