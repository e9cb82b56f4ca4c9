pub mod Records
pub mod Unit
pub mod MapName
pub mod Inner
