pub mod Outside
pub mod Arithmetic
pub mod Places
pub mod Memory
