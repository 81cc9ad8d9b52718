pub mod Elf
pub mod Refusals
pub mod Memory
pub mod Reading
