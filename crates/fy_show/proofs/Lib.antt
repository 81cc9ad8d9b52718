-- One more name that is tried
pub mod FreshLemmas
-- A text uses just the names that are in it
pub mod NameLemmas
-- Where fewer names are used than are tried, one that is made fresh is free
pub mod CaptureLemmas
-- The names of binders aren't used under them
pub mod BoundLemmas
-- A scope by its form
pub mod ScopeLemmas
-- Parts and types by how many there are
pub mod SequenceLemmas
-- A record by how many fields it has
pub mod RecordLemmas
-- How long short texts are
pub mod PartLemmas
-- What is put piece by piece is the text of a form
pub mod PutLemmas
