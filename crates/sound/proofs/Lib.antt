pub mod Follow
pub mod OnWay
pub mod Looks
pub mod Sound
