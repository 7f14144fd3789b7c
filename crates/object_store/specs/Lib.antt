pub mod Stored
pub mod Lending
pub mod inner
