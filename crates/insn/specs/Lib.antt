pub mod Layout
pub mod Rfc
pub mod Form
pub mod Helper
