pub mod Answer
pub mod Code
pub mod Units
pub mod Insns
pub mod Records
