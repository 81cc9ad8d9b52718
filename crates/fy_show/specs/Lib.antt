pub mod Binders
pub mod Entries
pub mod Fresh
pub mod Names
pub mod Texts
pub mod Reading
pub mod Laws
