pub mod Choice
pub mod Heads
pub mod Same
pub mod MapLaws
pub mod SignedNames
