-- What the readings give at one level
pub mod ReadLemmas
-- The order of path forms is reflexive and transitive
pub mod Order
-- Each law of subtyping holds of path forms
pub mod Laws
-- The central theorem: comparing path forms is exactly the least relation with the seven laws
pub mod Central
-- One step of a comparison of lists, and its end
pub mod Steps
-- Sizes of joined lists, and of lists behind a call or a field
pub mod Sizes
-- One more path, or type, in a list that is made
pub mod Making
-- What a type reads as, by its form
pub mod TypeForms
-- The parts of a type are less deep than it
pub mod TypeSizes
-- What lists of types give after one more demand, and their depths
pub mod RestLemmas
-- The test of equality, and lists in which each path stands once
pub mod OnceLemmas
-- `meet` is a greatest lower bound, and `join` a least upper bound
pub mod BoundLemmas
-- What a set of vectors gives, as a list of texts
pub mod NameLemmas
-- How deep types nest that are made of path forms
pub mod NestLemmas
-- The fields of types that are made of path forms, and their meets
pub mod FieldLemmas
-- One more member in the text of a meet
pub mod PrintLemmas
