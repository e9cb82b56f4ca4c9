pub mod Tests
pub mod Known
pub mod Words
