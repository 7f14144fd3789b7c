pub mod Crossings
pub mod Digits
pub mod Unique
