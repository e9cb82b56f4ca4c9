pub mod Length
pub mod Pieces
pub mod Valid
pub mod Holds
pub mod ReadBack
pub mod WriteBack
pub mod RoundTrip
