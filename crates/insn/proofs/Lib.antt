pub mod Table
pub mod Forms
pub mod Widths
pub mod Pieces
pub mod RoundTrip
pub mod Words
pub mod Helpers
