pub mod Forms
pub mod Bases
pub mod Types
