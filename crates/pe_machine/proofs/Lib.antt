-- Frames and contexts, the newest first
pub mod Stacks
-- Frames by their numbers, which fall from the newest to the oldest
pub mod FrameLemmas
-- The cells of sequences, behind one another in the order of their frames
pub mod CellLemmas
-- Names that lead to their frames still do where frames are cut, made and set
pub mod NameLemmas
-- Contexts and their bases
pub mod ContextLemmas
-- Plans, and what they lead to
pub mod PlanLemmas
-- States of the program where a sequence gets its cells, and where none does
pub mod FillingLemmas
-- Runs of the machine, step by step
pub mod RunLemmas
-- Runs of the machine over a source and a sink
pub mod Ending
