pub mod Variables
pub mod Cell
pub mod Hint
pub mod Lent
pub mod Apart
