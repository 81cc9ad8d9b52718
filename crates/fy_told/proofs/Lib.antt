-- What is advised, by the numbers of a table
pub mod AdviceLemmas
-- The names in scope at a node, one step down
pub mod AtLemmas
-- How many alternatives an abstraction has, and how many premises a part of a sequence
pub mod CountLemmas
-- The names in scope at the premise that has a node, and the lines told with them
pub mod InLemmas
-- Texts that are put one behind another
pub mod LineLemmas
-- What types are by their nodes
pub mod NodeLemmas
-- What premises are about, by their indices
pub mod PremiseLemmas
-- The numbers of the nodes below that at which judging stops are numbers of the derivation's nodes
pub mod RoomLemmas
-- One step of a loop over premises, alternatives and names, and its end
pub mod StepLemmas
-- What a phrase is read as, by its form
pub mod TreeLemmas
-- The names that a phrase uses: of which there are some, and the fields of a record
pub mod WhereLemmas
-- Texts that agree in their first bytes
pub mod WithinLemmas
