pub mod Starts
pub mod Lengths
pub mod Judged
pub mod Rules
pub mod Tests
mod Members
mod Signs
mod Passes
mod Relocs
