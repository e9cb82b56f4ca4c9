pub mod Instructions
pub mod Frames
pub mod RecordLaws
pub mod OfKind
