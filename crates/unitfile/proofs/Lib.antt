pub mod Run
pub mod Passing
pub mod Blocks
pub mod Sizes
pub mod Whole
pub mod NamePlace
pub mod Units
pub mod Theorems
