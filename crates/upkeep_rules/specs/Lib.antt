pub mod Falling
pub mod inner
