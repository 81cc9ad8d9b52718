-- A quotient overflows where it and both operands are negative, which the sign of their common bits tells
pub mod Signs
-- The registers of the stack of data, and what operations on them keep
pub mod Registers
-- What operations lead to, as what is left to prove of them
pub mod Needs
-- Unary operators on a register
pub mod Unary
-- Binary operators on two registers
pub mod Binary
-- The datum of a variable's own cell comes to a register
pub mod Cells
-- How many instructions straight code takes, and how many words with its faults
pub mod Sizes
-- Straight code comes to the outcome of its run
pub mod Works
-- Straight code and its faults are disciplined, and what it reads is near
pub mod Fine
-- Parts appended one behind the other, and the faults of parts counted on
pub mod Emitted
