pub mod Types
pub mod Sentences
pub mod Origins
pub mod Carets
pub mod Texts
pub mod Readings
