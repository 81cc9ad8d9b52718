-- What a machine shows of the word machine, and the registers that only lowered code uses
pub mod Shown
-- Lowered code line by line over a view, so that what a micro-operation becomes is computed
pub mod Lines
-- Parts of lists, by how many elements stand before them
pub mod Lists
-- Where instructions lead, and the address of each item of code
pub mod Reached
-- One line on the machine
pub mod Steps
-- Lines one behind the other, and the item behind them
pub mod Chained
-- Numbers that lowered code computes
pub mod Sums
-- The lines of each micro-operation lead where it leads: computed, with arithmetic where numbers meet
pub mod Agree
-- How many instructions each micro-operation takes: at least one, and at most its cost
pub mod Spent
-- Where the items of code stand in a program that has the words of their assembly
pub mod Placed
-- The machine does what the word machine does
pub mod Simulates
-- The machine of an image at its start
pub mod StartLemmas
-- Whole runs of images: they reach what the word machine reaches, and are never further
pub mod Runs
-- What micro-operations are made of: pieces as they are, and items of which the assembler chooses the form
pub mod Parts
-- What the assembler chose for the parts of code, and the pieces that these are
pub mod Choices
-- Every assembly of code's items has chosen for its parts: the words are those of pieces, and the labels stand before them
pub mod Chosen
-- The numbers of registers, and numbers as two halves
pub mod Numbered
-- Parts whose pieces are cut off whatever stands behind them, and keep the rules that ask for no window
pub mod Safe
-- The parts of disciplined micro-operations are safe
pub mod SafeMicros
-- The words at which windows may end: those before which labels stand, and those behind branches. Jumps lead to no others
pub mod Opened
-- Where pieces begin, and the last piece, in code whose last part leads elsewhere
pub mod PieceStarts
-- The last part of disciplined code leads elsewhere
pub mod Away
-- Windows that cover what the discipline counts, and how pieces change them
pub mod Covers
-- Which windows the pieces of micro-operations end
pub mod Ended
-- Loads and stores of a disciplined micro-operation stand under windows, where the words inside of it are no targets
pub mod Accesses
-- Windows end at open words alone, so all loads and stores of disciplined code stand under windows
pub mod Disciplined
-- The image of disciplined code is guarded
pub mod Guarded
-- Code has no more words than its blocks take, and two for each entry
pub mod Short
-- The items of disciplined code are encodable, and name labels of its blocks
pub mod Fits
-- The blocks of code are marked by the labels 0, 1, 2 .. in order
pub mod Marks
-- The items of disciplined code can be assembled
pub mod Assembled
-- Disciplined blocks read and write near words
pub mod Near
