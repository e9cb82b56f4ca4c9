pub mod Exits
pub mod Steps
pub mod Compose
pub mod Counts
pub mod Asked
pub mod Codes
pub mod Pieces
pub mod Words
