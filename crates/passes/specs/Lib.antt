pub mod Inner
pub mod Notes
pub mod Tables
pub mod Put
pub mod Places
pub mod Stages
pub mod Rows
