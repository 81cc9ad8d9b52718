-- The numbers that offsets, addresses and constants come to
pub mod Numbers
-- Steps at instructions that stand one behind the other, and what they write
pub mod Steps
-- Near and far forms of jumps and branches, and the form that takes an address, do what their items say
pub mod Jumps
-- The forms of constants write them
pub mod Constants
-- The instructions of the forms are encodable
pub mod Encodable
-- The instructions of a program with these words stand where their words do
pub mod Fetching
-- What a plan gives each item: its form, the word before which it stands, and the words before which labels stand
pub mod Choices
-- Steps of the loops over items: what is left of the lists gives the rest of the result
pub mod Loops
-- The labels that items mark, by their numbers, and their addresses
pub mod Labels
-- The first second mark, and the first usage of a label that isn't marked
pub mod Refusals
-- What a plan places is an assembly
pub mod Whole
