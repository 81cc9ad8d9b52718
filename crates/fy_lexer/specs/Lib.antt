pub mod Spellings
pub mod Spot
pub mod Pieces
pub mod Tokens
pub mod Identifiers
pub mod Again
pub mod Reading
