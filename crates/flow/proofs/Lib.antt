pub mod Members
pub mod Agree
pub mod Numbers
pub mod Laws
pub mod Room
mod Keys
mod Places
mod One
mod Passes
mod Reaching
mod Linking
