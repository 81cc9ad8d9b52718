pub mod Gives
pub mod Levels
pub mod Forms
pub mod Program
