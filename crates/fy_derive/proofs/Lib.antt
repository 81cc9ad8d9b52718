-- Lists of derivations, read
pub mod ReadLemmas
-- A list of nodes: the type of each, and one node more
pub mod TableLemmas
-- Different numbers of a table stand for different types
pub mod Apart
-- The test of nodes decides equality
pub mod NodeLemmas
-- Numbers keep what they stand for as a table grows
pub mod Standings
-- The test is subtyping
pub mod SubsumptionLemmas
-- The paths of the types with listed numbers
pub mod CoverLemmas
-- Numbers of a table against one type
pub mod BelowLemmas
-- The first demands of the paths of a node
pub mod ClearLemmas
-- What the rules say of the types that numbers stand for
pub mod RuleLemmas
-- A phrase by its form, and the conclusion of its rule by numbers
pub mod FormLemmas
-- A context by its form
pub mod ContextLemmas
-- A member of a list of derivations is less deep than the list
pub mod DerivationSizes
-- Steps of judging
pub mod JudgeLemmas
-- One step of judging, in numbers
pub mod StepLemmas
-- What judging concludes is typed
pub mod SoundLemmas
-- What is typed is concluded by some derivation
pub mod CompleteLemmas
-- The parts that a derivation goes down to
pub mod PartLemmas
-- One more derivation of a list, in a loop over its members
pub mod SizeLemmas
-- One more derivation in the text of a list
pub mod PrintLemmas
-- Which demands a phrase answers, one path at a time, where cells, sequences of cells and jumps stand
pub mod PathTyping
-- Substitution: a closed phrase that answers all paths of a variable can be copied in for it, and the phrase answers what it did
pub mod CopyingIn
-- What is typed answers each path of its type
pub mod TypedAnswers
-- Operators on data of their types give data of their types, or fault
pub mod OperatorTypes
-- Typed states of the copy rule: the contexts take a path that the focus answers, and the store has the rows of the world
pub mod StateTyping
-- What a context asks for first is what its path begins with
pub mod Asking
-- What meets a context that takes its path leads to a typed state, or to a fault
pub mod ContextSafety
-- A step from a typed state leads to a typed state, or to a fault
pub mod StepSafety
-- A run of a phrase that is typed as a command is never stuck
pub mod RunSafety
-- Phrases that have no type, and are stuck
pub mod SafetyRows
-- What a placed derivation concludes
pub mod PlacedLemmas
-- How large a placed derivation is
pub mod PlacedSizes
