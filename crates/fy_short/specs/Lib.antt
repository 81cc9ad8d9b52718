pub mod Cut
pub mod DataTexts
pub mod ShortTypes
