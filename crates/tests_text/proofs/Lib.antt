-- The tokens of a text end with their end
mod Ended
-- A program that can be printed
mod PrintedSum
-- Two units of which the first was made with fewer names
mod TwoUnits
