pub mod Stepping
pub mod Steps
pub mod inner
