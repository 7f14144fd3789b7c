pub mod Machine
pub mod Runs
pub mod Fresh
pub mod inner
