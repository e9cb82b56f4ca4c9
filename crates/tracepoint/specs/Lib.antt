pub mod Compile
pub mod Faults
pub mod Answers
pub mod Lent
pub mod Tables
