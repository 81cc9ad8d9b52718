pub mod Items
pub mod Step
pub mod Run
pub mod Links
pub mod Laws
