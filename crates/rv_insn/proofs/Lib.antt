-- No two operations have the same fixed fields
pub mod FixedFields
-- The form of an instruction, as its opcode and funct3 tell it
pub mod FormOfWord
-- Each word is at most one instruction's
pub mod OneInstruction
-- A word and its fields: a word of 32 bits is told by them, and each choice of fields has one
pub mod WordFields
-- An instruction has at most one word
pub mod OneWord
-- Each encodable instruction has a word
pub mod SomeWord
-- What has a word is encodable
pub mod OnlyEncodable
-- Runs, instruction by instruction: the laws of all runs
pub mod Runs
-- How a machine stands after a step
pub mod Standing
-- What a step keeps of a machine: its number of registers, x0, and the size of its stack
pub mod Shape
-- What the words of the code tell of its instructions
pub mod Reading
-- The stack's bytes, seen as doublewords
pub mod Doublewords
-- Numbers in the code and in the table, by their words
pub mod Regions
-- The definitions of the step at numbers: special cases that the manual tables, and a run
pub mod Examples
-- A write at the beginning of what lies from a place on, as code writes it
pub mod Written
