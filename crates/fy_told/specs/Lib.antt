pub mod ReasonTexts
pub mod Reading
