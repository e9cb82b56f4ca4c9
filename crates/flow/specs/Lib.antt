pub mod Node
pub mod Reached
pub mod Computed
pub mod Linked
pub mod Keys
pub mod Places
pub mod Way
pub mod Sizes
