pub mod Takes
pub mod Opcodes
pub mod Cells
