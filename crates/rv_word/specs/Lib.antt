pub mod Word
pub mod Costs
pub mod Discipline
pub mod Laws
