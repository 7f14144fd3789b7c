pub mod Split
pub mod Turns
pub mod inner
