pub mod Bytes
pub mod Written
pub mod Size
pub mod Typed
