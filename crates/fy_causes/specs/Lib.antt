pub mod Occurrences
pub mod Blamed
pub mod Causes
pub mod Hollow
pub mod Facts
pub mod Readings
