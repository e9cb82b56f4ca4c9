pub mod Frame
pub mod Instruction
pub mod Terminator
pub mod Payload
pub mod Record
