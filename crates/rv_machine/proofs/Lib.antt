-- Runs, by their counts of instructions
pub mod Runs
-- What a watch is told, word by word
pub mod Watching
-- How many bytes a run puts, instruction by instruction
pub mod Counting
-- Runs over a source and a sink, instruction by instruction
pub mod Turns
-- One instruction with its input and output, by the event that its step leads to
pub mod Exchanges
-- Numbers of a load within words, and the sizes of loads and stores
pub mod Parts
-- What a load and a store come to, by where they lie. `s` is the size of the access
pub mod Accesses
-- Where a fetch traps
pub mod Fetching
-- The start of an image
pub mod Loading
-- Decoded words that are fetched
pub mod Decoding
-- Instructions in a row
pub mod Striding
-- Steps of patterns of known words
pub mod Stepping
-- Patterns that are found in decoded words
pub mod Finding
