-- Which field is refused first, step by step
pub mod Judging
-- Lists of numbers and places, and their bytes
pub mod Lists
-- Short numbers: what they are, and that they come back from their bytes
pub mod Groups
-- Places in either version, and what refuses them
pub mod Placing
-- The bytes of an image, and what is read from them
pub mod Spelling
-- Bytes are those of at most one image, and aren't refused then
pub mod Unique
