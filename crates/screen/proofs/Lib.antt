pub mod Before
pub mod Low
pub mod Pass
pub mod OneAnswer
pub mod Exact
pub mod Table
