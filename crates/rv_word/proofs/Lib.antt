-- Runs of the word machine, step by step
pub mod Runs
-- The output of a run only grows
pub mod Outputs
-- Registers read after one was written
pub mod Registers
-- What registers hold stays below 2 ^ 64
pub mod Below
-- The windows that are counted are there
pub mod Windows
-- Disciplined code never goes wrong
pub mod Right
-- Each step keeps the data that of a machine of 64 bits
pub mod Sound
