pub mod Runs
pub mod Images
pub mod Ends
pub mod Demo
pub mod inner
