pub mod Rosters
pub mod inner
