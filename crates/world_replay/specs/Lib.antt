pub mod Differing
pub mod Listed
pub mod Replayed
pub mod Serials
pub mod inner
