pub mod Again
pub mod Phrases
pub mod Programs
