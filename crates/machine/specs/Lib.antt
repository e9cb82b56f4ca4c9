pub mod Word
pub mod Memory
pub mod Turn
pub mod Run
pub mod Words
pub mod Points
pub mod Known
