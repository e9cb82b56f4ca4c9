pub mod Landing
pub mod PastEnd
