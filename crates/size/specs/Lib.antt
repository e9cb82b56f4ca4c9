pub mod Size
pub mod Part
pub mod Celled
