pub mod Numbers
pub mod Keys
pub mod Merging
pub mod Sized
pub mod Rows
