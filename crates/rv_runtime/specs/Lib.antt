pub mod Routines
pub mod Emission
pub mod Laws
