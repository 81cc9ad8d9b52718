-- The instructions of the process are encodable
pub mod Encodable
-- The code of the process, made of the pieces of the image
pub mod Coding
-- Words and their instructions, one by one
pub mod Words
-- How long the parts of the process and of its file are
pub mod Sizes
-- Processes, step by step
pub mod Running
-- What Linux makes of the file of an image is what its process starts with
pub mod Loading
-- The file of an image is that of its process
pub mod Loads
