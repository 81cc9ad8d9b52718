pub mod Reasons
pub mod Expected
pub mod Stopping
