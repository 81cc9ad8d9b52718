pub mod Straight
pub mod Laws
