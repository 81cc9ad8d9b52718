-- Runs of the word machine and what they cost, step by step
pub mod Runs
-- What a block of micro-operations does, as what is left to prove of it
pub mod Wp
-- What the operations on registers compute where selected code uses them
pub mod Values
-- Frames around one another, among the items
pub mod Around
-- Items in the words of the stack
pub mod Memory
-- What code for the word machine has that was selected for push-enter code
pub mod SelectedCode
-- The word machine makes a step of the machine of items
pub mod ItemSteps
-- Where blocks end: states of the word machine that stand for states of items
pub mod Landing
-- Making a frame: its binding stands at the top, and its display comes of that of the frame around it
pub mod Making
-- Reaching the frame of a variable, and what stands in it
pub mod Reaching
-- A variable's thunk is entered at a shape, through the table
pub mod Entering
-- What is asked of a sequence of cells at a shape, and the word of the table for it
pub mod Asking
-- A sequence of cells is entered, by an index or for its length; and the block of a variable, whatever it is bound to
pub mod Indexing
-- Straight code on the words that stand for items
pub mod Evaluating
-- The block of an item does what the item does
pub mod Executing
-- A datum or a finished command meets the newest context
pub mod Meeting
-- The cells of a sequence are made: their number is met, one more is made, and all are there
pub mod Filling
-- An index meets the context of a sequence of cells
pub mod Elements
-- A datum meets the context of an operator
pub mod Operating
-- Each step of the machine of items is made by the word machine
pub mod Step
-- The code that is selected has the blocks, entries, words of the table and places that its labels and numbers say
pub mod Placed
-- Runs of the machine of items, from their first step
pub mod ItemRuns
-- Whole runs, in both directions
pub mod Both
-- What the word machine has done, the run of items has done; and it comes to where that is
pub mod RunsAgree
-- Whole runs, from the start
pub mod Whole
-- Parts of blocks of selected code are disciplined
pub mod PartDiscipline
-- The blocks and entries of an item are disciplined
pub mod BlockDiscipline
-- The numbers in the blocks of code that can be selected are what the discipline asks for
pub mod Fitting
-- The code that is selected is disciplined
pub mod Disciplined
-- How many words the blocks of an item take, and its entries
pub mod BlockSizes
-- The code that is selected is short: its words, its table and its places
pub mod Short
-- The image of selected code does what the push-enter code does
pub mod Images
-- The binding of a variable is reached by few straight instructions
pub mod Bindings
-- The numbers that are kept of a code: where its items begin, and the places of its thunk nodes
pub mod NumberingLemmas
-- Blocks appended to items one behind the other
pub mod Emitted
-- What the blocks of items read and write is near enough for the offsets of loads and stores
pub mod Offsets
-- How many items selected code has
pub mod ItemCounts
