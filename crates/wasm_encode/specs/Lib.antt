pub mod Encodable
pub mod inner
