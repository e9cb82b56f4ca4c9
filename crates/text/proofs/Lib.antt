pub mod Decimals
pub mod Steps
pub mod Wrote
pub mod LineLengths
pub mod Known
