pub mod Laid
pub mod Keep
pub mod Located
pub mod Tidy
pub mod Written
pub mod Patches
