-- Bounds on the words of a frame
pub mod Words
