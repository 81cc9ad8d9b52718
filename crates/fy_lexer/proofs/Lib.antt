-- Elements: none is the beginning of another, and where a text can't become one
pub mod ElementLemmas
-- Steps of reading, put together
pub mod ReadingLemmas
-- Runs of bytes, tables and decimal numbers
pub mod RunLemmas
-- The first byte of a piece says of what class it is
pub mod ClassLemmas
-- Strings and characters: the longest, and where there is none
pub mod LiteralLemmas
-- Names, numbers, symbols and comments: the longest, and where there is none
pub mod WordLemmas
-- Lists of names that grow at their end
pub mod NamesLemmas
-- The identifiers among tokens have numbers among the names behind their text
pub mod IdentifierLemmas
-- Steps of reading, and that at most one way leads on
pub mod StepLemmas
-- At most one step leads on from a state, and at most one fault stands there
pub mod SameLemmas
-- A text has at most one list of tokens or first fault
pub mod UniqueLemmas
-- Bytes that no token goes on over, as a closing parenthesis: the longest token before one is the longest without it
pub mod OverLemmas
-- Names that are among a list already, and the rest of a text read again
pub mod AgainLemmas
