-- What was taken off the rest of a file
pub mod Taking
-- Which field is refused, one field at a time
pub mod Judging
-- Lists of words and places, and their bytes
pub mod Lists
-- The headers, segment by segment
pub mod Segments
-- What stands behind the headers, part by part
pub mod Contents
-- An image has one file, and a file is that of one image, which isn't refused
pub mod Unique
-- The byte at an address: in a region, below it and past it
pub mod Regions
-- What a loader makes of the file of an image is what the image's machine starts with
pub mod Loading
