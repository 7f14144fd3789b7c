pub mod Next
pub mod Hosting
pub mod inner
