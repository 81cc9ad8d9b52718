-- What a block of micro-operations leads to, as what is left to prove of it
pub mod Blocks
-- Integers as words of 64 bits, and what comparisons of words say of them
pub mod Numbers
-- Sums, differences and negatives of words are those of integers, and the tests behind them see where they overflow
pub mod Sums
-- The halves of a product of words are those of the product of integers
pub mod Products
-- Quotients and remainders of words are those of integers, and the tests before and behind them see where there is none
pub mod Quotients
-- Comparisons of words, and what is made of truth values
pub mod Comparisons
-- The first operations of an operator's block: they read its context and leave it
pub mod Contexts
-- The unary operators
mod Unary
-- The binary operators
mod Binary
-- What operators make of data of 64 bits are such data
pub mod Fitting
-- The operators' blocks as code
mod Discipline
-- Blocks appended one behind the other
mod Emitted
