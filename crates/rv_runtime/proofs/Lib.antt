-- Runs of the word machine, one behind the other, with what they cost
pub mod Runs
-- Operations that lead on to the next, and those that end a block
pub mod Straight
-- The blocks of code that holds the routines
pub mod Held
-- The digits of a number from the highest down are its decimal text
pub mod Decimal
-- The loop that puts digits
pub mod Digits
-- The search for the greatest power of ten that isn't above a number, and the number's digits
pub mod Powers
-- Integers are put as their decimal text
pub mod Ints
-- Truth values are put as their text, and runs end as they should
pub mod Truths
-- Words of the stack that are read and written under a window
pub mod Words
-- Displays are copied, in rounds of eight words and a last one of four
pub mod Copying
-- Frames are made
pub mod Frames
-- The routines as code: disciplined, few, and the same for all programs. Runs end as they tell
pub mod Judged
-- Items of the routines' blocks, appended part by part
pub mod Emitted
