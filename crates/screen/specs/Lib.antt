pub mod Verdict
pub mod Faultless
pub mod Parts
