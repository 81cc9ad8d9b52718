-- How items stand for the frames and contexts of the push-enter machine
pub mod Lays
-- What stands on the stack stays as frames and contexts come
pub mod Standing
-- The newest context: where it stands, what is older, and what is left where it is taken
pub mod NewestLemmas
-- Variables, cells and jumps are found on both sides, and a cell is written on both
pub mod VariableLemmas
-- The cells of a sequence are found on both sides, and one is written on both
pub mod SequenceLemmas
-- A jump leads to one context on both sides
pub mod JumpLemmas
-- Steps of both machines that go alike, and the changes of state that they are made of
pub mod Alike
-- Cells of both sorts: one that a frame holds, and one of a sequence
pub mod CellLemmas
-- Straight code is run on both sides: its cells are those of the same frames
pub mod StraightLemmas
-- What meets the newest context
pub mod MeetingLemmas
-- A thunk is entered, and an instruction is executed
pub mod InstructionLemmas
-- Runs of items, step by step
pub mod RunSteps
-- Runs of both machines, step by step
pub mod RunLemmas
-- Links stay as items come and as a cell is written, and what is found is linked
pub mod LinkLemmas
-- A step of the machine of items keeps the links
pub mod LinkSteps
-- Runs of items alone: their states are linked, and none is gone
pub mod ItemRuns
