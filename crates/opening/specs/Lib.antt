pub mod Names
pub mod Places
pub mod Inner
