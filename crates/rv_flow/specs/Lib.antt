pub mod Lowering
pub mod Emission
pub mod Laws
