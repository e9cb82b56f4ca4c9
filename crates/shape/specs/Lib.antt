pub mod Code
pub mod Fields
pub mod Shape
pub mod Relocations
pub mod Shapes
pub mod Fine
pub mod Set
pub mod Pair
