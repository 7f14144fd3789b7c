pub mod Sights
pub mod Fields
pub mod inner
