pub mod Within
pub mod RoomRules
pub mod Followed
pub mod Calls
pub mod Crossed
pub mod inner
