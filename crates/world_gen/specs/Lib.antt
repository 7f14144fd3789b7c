pub mod Generator
pub mod PlayerModule
pub mod Uploads
pub mod inner
