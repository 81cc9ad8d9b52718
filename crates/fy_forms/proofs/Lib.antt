-- Common paths, element by element
pub mod CommonLemmas
-- Paths of a list that are enough for the common paths with it
pub mod FreshLemmas
-- Common paths with those of a key alone, and with a list of lent paths
pub mod JoinLemmas
-- Lists that are made path by path
pub mod KeepLemmas
-- Only paths of one key are below one another, so that looking among those of the key is enough
pub mod KeyLemmas
-- What a path adds to another is known by its members that the other lacks
pub mod RowLemmas
