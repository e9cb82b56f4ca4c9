pub mod Parts
pub mod InBytes
