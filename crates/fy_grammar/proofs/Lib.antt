-- What holds of what was read, or else of the fault, through the combinators of reading
pub mod Holding
-- What a test or a word of reading says of the next token
pub mod SignsSound
-- What is read as a type is spelled so, within the nesting
pub mod TypesSound
-- What is read is spelled so, within the nesting
pub mod TermsSound
-- Lists as a loop reads them: what was read so far, and what reading on gives
pub mod Many
-- Where a call stopped, the reading that goes on from it stops; and where tokens may stand one node further in
pub mod Stopping
-- Programs: what reading all tokens says of them
pub mod Programs
-- The tokens of a text end with their end, and have no other
pub mod Lexed
-- Lists of two members or more, and lists of one, which is no list
pub mod Lists
-- Nodes of a list that isn't empty, and the members of lists
pub mod Made
-- Each item of a list takes a token at least
pub mod Advance
-- Forms of terms, read step by step: what the whole gives where each step is read, and where one stops
pub mod Steps
-- Forms of terms with lists in them, read step by step, where the parser gives a list with its first member
pub mod Parts
-- Operands behind operators, one at a time, and lists of which no member was read yet
pub mod Links
-- Which form begins, and what stands in front: the tests of the parser, and what the reader does there
pub mod FormSigns
-- Where an item of a list stops, the whole list stops
pub mod TypeLoops
-- Where an item of a list stops, the whole list stops
pub mod TermLoops
