pub mod Ascii
pub mod Digits
pub mod Lines
pub mod Known
