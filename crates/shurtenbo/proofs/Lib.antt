pub mod OneAnswer
mod Counts
mod Signed
