pub mod Apart
pub mod Search
pub mod Places
pub mod Sorted
pub mod Hints
