-- The paths of a level, and where those in their domains stand on the next one
pub mod LevelLemmas
-- What lists of places have, and what covers them
pub mod IndexLemmas
-- How deep the paths of a level are, and those of the next one
pub mod DepthLemmas
-- What is below a path, or above it, has its signs, and what stands in the domains the other way round
pub mod SearchLemmas
-- What is found among the places of a form's paths
pub mod FoundLemmas
-- First demands of paths, and lists of what is behind them
pub mod DemandLemmas
