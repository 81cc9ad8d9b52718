pub mod Given
pub mod Units
pub mod Due
pub mod Fetched
pub mod Answers
pub mod Working
pub mod Audited
pub mod Complete
