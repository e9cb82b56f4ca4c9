pub mod ScreenPoints
pub mod Known
pub mod Done
pub mod Passes
pub mod OneAnswer
