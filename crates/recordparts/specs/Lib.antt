pub mod Terminator
pub mod Stands
