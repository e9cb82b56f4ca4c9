pub mod Fields
pub mod Meant
