pub mod Front
pub mod Leb
pub mod inner
