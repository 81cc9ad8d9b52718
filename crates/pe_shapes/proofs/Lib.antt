-- At one number stands one node: the parts of a phrase have ranges of numbers apart
pub mod NodeNumbers
-- What judging went through where it concludes, and that this doesn't depend on the numbers of the nodes
pub mod JudgedLemmas
-- Below the subsumptions and meets of a derivation stand rules of the phrase's own form
pub mod RuleBelow
-- What a form passes to its parts its premises conclude: from the path of a rule's conclusion, one form at a time
pub mod FormPasses
-- The shape table of a derivation is closed: a pair's node stands in the phrase, and what its form passes is in the table
pub mod ClosedLemmas
-- A list of nodes: the shape of each, and one node more
pub mod NumberLemmas
-- The test of nodes decides equality, and different numbers stand for different shapes
pub mod NodeTests
-- Members of lists, and lists in which none stands twice
pub mod Members
-- The shapes of types by their form
pub mod ShapeLemmas
-- Numbers keep what they stand for as a table grows
pub mod Standings
-- A rule's conclusion comes from where its form says
pub mod OriginLemmas
-- The parts of phrases, and their sizes
pub mod PartLemmas
-- One more part of a list, in a loop over its members
pub mod SizeLemmas
-- The pairs of a derivation: those of its own conclusion, and those of the derivations in it
pub mod PairLemmas
-- What has been found grows
pub mod FoundLemmas
-- Walking a derivation, node by node
pub mod WalkLemmas
-- One shape of a node is recorded
pub mod RecordLemmas
-- What all that was found says of the pairs of the derivation
pub mod TableMade
-- A phrase has no more thunks than nodes
pub mod ThunkLemmas
-- A context by its form
pub mod ContextLemmas
-- One turn of each loop over a list
pub mod LoopSteps
-- Walking a derivation of each form
pub mod Arms
-- The answers of the whole
pub mod ShapingLemmas
-- The derivations in a derivation are less deep
pub mod WalkSizes
-- The order of shapes is strict and total
pub mod OrderLemmas
-- Lists in order: one member more, and lists with the same members
pub mod Sorting
-- Numbers by the order of their shapes, and where each stands
pub mod PlaceLemmas
-- Pairs that are sorted by node and then by shape
pub mod PairOrder
-- Tables of what was found, in order
pub mod TableLemmas
-- Tables in order with the same pairs are one
pub mod TablesOne
