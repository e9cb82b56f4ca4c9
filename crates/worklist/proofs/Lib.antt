pub mod LowestBit
pub mod Total
pub mod Words
