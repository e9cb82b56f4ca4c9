pub mod Written
pub mod Safe
pub mod OnWay
