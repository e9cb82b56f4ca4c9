pub mod Pick
pub mod Le
pub mod Number
pub mod Range
pub mod Bit
