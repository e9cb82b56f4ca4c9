pub mod Occurrences
pub mod Collected
pub mod TooMany
pub mod Conditions
pub mod Surveyed
pub mod Standing
pub mod Inner
