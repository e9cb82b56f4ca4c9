pub mod Emitted
pub mod Layout
pub mod Jumps
pub mod Code
pub mod Inner
