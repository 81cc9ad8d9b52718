pub mod Operators
pub mod Laws
pub mod Emission
