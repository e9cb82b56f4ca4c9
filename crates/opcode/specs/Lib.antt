pub mod Opcode
pub mod Asks
