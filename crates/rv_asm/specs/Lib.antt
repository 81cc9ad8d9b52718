pub mod Items
pub mod Forms
pub mod Meaning
pub mod Assembly
pub mod Choosing
pub mod Planning
