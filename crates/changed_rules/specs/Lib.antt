pub mod Counts
pub mod Census
pub mod inner
