-- Lists of paths as types
pub mod TypeLemmas
-- Comparing two paths demand by demand
pub mod MismatchLemmas
-- Direct parts where they stand
pub mod PartLemmas
-- The names of the variables in scope, from the outside in
pub mod ScopeLemmas
-- Parts with what stands in front of them, by index
pub mod SpanLemmas
-- The parts of what is told are direct parts
pub mod SeenLemmas
-- The paths that take an argument
pub mod TakerLemmas
-- A phrase inside definitions
pub mod InsideLemmas
-- What is told of a name, and of a call
pub mod OriginLemmas
-- Texts that are put piece by piece
pub mod LineLemmas
-- Sentences by their cases
pub mod SentenceLemmas
-- What is told with and without a second cause
pub mod TextLemmas
