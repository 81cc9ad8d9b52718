pub mod Shown
pub mod Store
pub mod Moves
pub mod Low
pub mod Enters
pub mod Kept
pub mod Seen
pub mod Ends
