pub mod Words
pub mod Set
