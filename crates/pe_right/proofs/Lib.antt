-- Path typing with the table: which paths a node answers, where each pair that its evaluation asks for is in the table
pub mod Demanding
-- Closed phrases copied in for all variables
pub mod ClosingLemmas
-- Lists of frames, whose numbers fall: what a newer frame, a cut and a written cell leave
pub mod FrameLemmas
-- What answers a path with the table
pub mod AnswerLemmas
-- From a derivation: what it concludes is answered path by path, where each of its pairs of node and shape is in the table
pub mod DerivedLemmas
-- Constants: their parts, that nothing is replaced in them, and that each path of one is that of its value
pub mod ConstantLemmas
-- Merges in a phrase, and how many nodes are left beside them
pub mod Merges
-- What stands between a state of the machine and one of the copy rule
pub mod Invariants
-- Nodes of a phrase: a part of a node is one, it is no larger, and each has its number in preorder
pub mod NodeLemmas
-- What the code has for a node: its entries, and the instruction of its form
pub mod EntryLemmas
-- What frames stand for, as newer frames come, as they are cut off, and as a cell is written; and what a variable finds
pub mod Growing
-- Contexts: what they ask for first, and what holds of them as frames come, are cut off and are written
pub mod ContextLemmas
-- How a step of the machine goes with steps of the copy rule
pub mod Moves
-- A constant is evaluated by fewer steps of the copy rule than twice its nodes, and nothing but the focus changes
pub mod Evaluating
-- A cell, of a variable or of a sequence, gives its datum or takes another, on both sides; and what a sequence has
pub mod CellLemmas
-- Straight code comes to what the copy rule makes of its phrase, by fewer steps than twice its nodes
pub mod StraightLemmas
-- A node is evaluated in one step of the machine, where the copy rule takes some
pub mod StraightSteps
-- A datum and a finished command meet the context that takes them, and a sequence is filled
pub mod MeetingLemmas
-- A procedure, a field and an acceptor meet the context that demands them, which is taken off while the frames stay
pub mod TakingLemmas
-- A thunk is entered at a shape of its paths
pub mod EnteringLemmas
-- An instruction is executed
pub mod InstructionLemmas
-- A state that simulates reads back: what is said of paths is left out
pub mod Reading
-- The first step of an item: where it comes to a datum, no context is there, and where it ends, no frame
pub mod FirstSteps
-- Runs: step by step, the machine is where the copy rule is
pub mod RunLemmas
-- States of code that hands constants as data, by those of code that hands thunks
pub mod Swapping
-- The constant that stands at a number in preorder
pub mod NodeValues
-- The code of a constant comes to its value in fewer steps of the machine than twice its nodes, and nothing but the focus changes
pub mod CodeEvaluating
-- One step of code that hands constants as data, and the steps of the code that hands thunks which it stands for
pub mod Handing
-- No step takes the number of frames that were made back
pub mod FrameCounts
-- Runs of code that hands constants as data, by those of the code that hands thunks
pub mod AheadLemmas
