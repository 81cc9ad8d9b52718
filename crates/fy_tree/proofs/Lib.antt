-- Where a derivation concludes a type, judging concludes at each of its nodes
pub mod ShownLemmas
-- One step down a tree that is shown
pub mod TreeLemmas
-- The `let`s at the root of a derivation, and the text below them
pub mod WholeLemmas
