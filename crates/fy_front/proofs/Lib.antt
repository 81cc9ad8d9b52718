-- The core phrase of a judged text has few nodes
pub mod Nodes
-- Texts that are checked
pub mod Checking
