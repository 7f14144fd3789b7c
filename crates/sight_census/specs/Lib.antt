pub mod Censuses
pub mod inner
