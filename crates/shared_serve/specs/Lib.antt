pub mod Lanes
pub mod Served
pub mod inner
