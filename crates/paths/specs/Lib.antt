pub mod Registers
pub mod Way
pub mod Readable
pub mod Mask
pub mod Work
