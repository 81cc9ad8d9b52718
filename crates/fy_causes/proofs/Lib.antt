-- Forms of any number of parts, by lists of what is found of the parts
pub mod ArmLemmas
-- The variables in scope, by the form of the scope
pub mod AroundLemmas
-- What is blamed: where it stands, and that blame stops there
pub mod BlameLemmas
-- An abstraction's body under its alternatives
pub mod BodyLemmas
-- The facts that causes tell hold
pub mod CauseLemmas
-- Lists of paths that are empty
pub mod EmptyLemmas
-- What is hollow in the part that fails
pub mod FailLemmas
-- Forms that have more types than `ns` where their parts have
pub mod FormLemmas
-- What is told behind a cause has only `ns`
pub mod HollowLemmas
-- What loops have done so far, and what is left
pub mod LoopLemmas
-- Lists of paths that are made and looked through
pub mod PathLemmas
-- Walks along lists of paths: their first demands
pub mod WalkLemmas
