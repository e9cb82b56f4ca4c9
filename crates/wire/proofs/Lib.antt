pub mod Pairs
pub mod Sign
pub mod Le
pub mod Store
pub mod Part
pub mod InRange
pub mod Bits
