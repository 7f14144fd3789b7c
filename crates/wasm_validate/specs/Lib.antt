pub mod Modules
pub mod Floats
pub mod inner
