pub mod Annotated
pub mod Laws
pub mod Lines
pub mod Reading
pub mod Whole
