pub mod Checks
pub mod Made
pub mod Shown
pub mod inner
