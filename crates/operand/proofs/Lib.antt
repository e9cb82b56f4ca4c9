pub mod OperandList
pub mod Pieces
pub mod OperandBytes
pub mod OperandIn
