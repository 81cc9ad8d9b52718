pub mod Levels
pub mod Searching
pub mod Demands
pub mod Indexed
