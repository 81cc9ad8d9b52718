-- Pieces of a header, read one after another
mod PieceLemmas
-- Pieces that name what they name, one after another, and faults among them
mod NamingLemmas
-- How tokens are cut into a header and what stands behind it
mod Cuts
-- The end of a text is in no piece of its header, and stands last behind the `==`; so what is judged ends with it
mod Ends
-- The `==` of a header has a place in the text, and bytes behind it
mod Tails
-- Each token of a text stands in the text at its place
mod TokenPlaces
-- What the composed derivation concludes
mod ComposedLemmas
-- Places grow along a text, so each beginning of it ends at a place of its own
mod PlaceOrder
-- The text of units put together is the definitions of all but the last, and the last
mod JoinLemmas
-- Why sources are refused, from why their stages are
mod SourceLemmas
-- Headers, step by step
mod HeadLemmas
-- A source has one header, also where more names are known
mod SameSources
-- The names in a header are identifiers that the list of names has
mod KnownNames
-- How a source is read behind the `==` of its header
mod TailSteps
-- The program that the tokens of units put together spell
mod ProgramLemmas
-- How the joined text is read
mod TextLemmas
-- How deep the types in the composed derivation are
mod TypeDepths
-- Units that are linked
mod LinkLemmas
-- What units say, and their parts of the text
mod SaidLemmas
-- Why the joined text is refused, and what units are that aren't linked for it
mod TextRefusals
-- The tokens that spell a type: none of them is `.` or `|`, and they spell it before any rest
pub mod TypeParts
-- What the programs that are judged for a source are: `\ name : type
pub mod Shapes
-- In no piece of a header stands a `.` or a `|`
pub mod CleanPieces
-- What the programs that are judged for a source mean: the type of a piece, and the phrase of a unit
pub mod Meanings
-- What a verdict on a derivation says
pub mod Verdicts
-- Values of the code that are units, and refusals of their makers
pub mod Made
-- Units that are read from bytes, and bytes that are none
pub mod ReadUnits
-- One unit more among those before, and the last unit
mod CauseLemmas
-- Derivations placed one premise at a time, and the types that are wanted
mod PlacingLemmas
-- Units put together, the last one first
mod UnitLemmas
-- Tokens that are put one behind another
mod PutLemmas
-- The names in what a source says are those of identifiers, and the meets in its types are full
mod NamedSources
-- What is written of a unit whose derivation can be printed is read as that unit
mod ReadBack
-- A source says one thing, or is refused for one reason
mod OneSource
-- A source is that of a unit, or isn't for one reason
mod OneFault
-- Bytes are of one unit, or are none for one reason
mod OneUnit
-- Units are linked to one text, phrase and derivation, or aren't for one cause
mod OneLink
