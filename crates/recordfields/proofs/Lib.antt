mod Pairs
pub mod Back
