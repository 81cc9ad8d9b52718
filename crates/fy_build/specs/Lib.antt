pub mod Headline
pub mod Agreement
pub mod Laws
pub mod Shown
pub mod Building
pub mod Selected
pub mod Errors
pub mod Selecting
