-- The bytes that spell pieces lead where the pieces lead
pub mod ByteLemmas
-- Wherever bytes lead, some text goes on from there: a text is begun as long as its bytes lead somewhere
pub mod CompletionLemmas
-- The depths of the nodes of a derivation are those of the words of its text
pub mod DepthLemmas
-- The end of a word or a number at a reader, and the byte behind it
pub mod EndLemmas
-- Whether the pieces of a text pass a limit, by what they leave open
pub mod FineLemmas
-- The pieces of the front of a text are a front of its pieces, of which the last may go on
pub mod FrontLemmas
-- What a list of names gains while a text is read: identifiers of the text, and no more than it has bytes
pub mod GainLemmas
-- Pieces that lead from the beginning to the end are those of some derivation
pub mod GrammarLemmas
-- What the pieces of a text spell with one piece more
pub mod HalfwayLemmas
-- How deep the levels of a type are that is read
pub mod LevelLemmas
-- Bytes that lead somewhere spell pieces that lead there, up to the piece that has begun
pub mod LexLemmas
-- A type is at least as deep as its pieces so far make it, and may be no deeper
pub mod LowLemmas
-- What derivations and nodes that are made are read as
pub mod MadeLemmas
-- How far the limits are used up with one piece more
pub mod MeasureLemmas
-- Each piece that a reader takes leads from where it is to where it is next
pub mod MoveLemmas
-- The names that are there behind a text are those of the fields among its pieces
pub mod NamingLemmas
-- The nodes that wait, with one more
pub mod NodesLemmas
-- A derivation that is given to the nodes that wait
pub mod OpenLemmas
-- The parentheses that are open at once somewhere among pieces
pub mod ParenLemmas
-- Where a reader stops for a limit, its text passes it, and before it doesn't
pub mod PassLemmas
-- What the functions of a reader do where a piece begins or ends
pub mod PieceAnswers
-- The pieces of a derivation lead from its beginning to its end
pub mod PieceLemmas
-- What is printed of a derivation is a text of it, which opens no more parentheses at once than its types nest
pub mod PrintedLemmas
-- The pieces of a derivation, as far as they are read, spell what its nodes become
pub mod ReadNodes
-- The pieces of a type in brackets, as far as they are read, spell what its levels become
pub mod ReadTypes
-- What the functions of a reader do, over what its parts stand for
pub mod ReaderAnswers
-- The steps of a reader, over what its parts stand for
pub mod ReaderLemmas
-- What a reader has read passes no limit so far
pub mod SoFarLemmas
-- What is printed of a derivation within the limits is not refused
pub mod TakenLemmas
-- Small texts, and bytes that begin none
pub mod TextExamples
-- A test of some text of a list, in a loop over the list
pub mod TextLemmas
-- The nestings of the types of a derivation are those that its text gives
pub mod TypeDepth
-- The pieces of a type, as far as they are read, spell what they are read as
pub mod TypeLemmas
-- A text has one list of pieces that fit
pub mod UniqueLemmas
-- The pieces of a derivation give it back, where names are distinct
pub mod ValueLemmas
-- The bytes of a text, read one by one
pub mod WholeLemmas
-- What a text is in a table of words, by its length and its bytes, as a match on byte strings tells them
pub mod WordReads
-- The words of nodes in their table
pub mod WordTable
