pub mod Entries
pub mod Members
pub mod Code
pub mod Valid
pub mod Print
pub mod Straight
