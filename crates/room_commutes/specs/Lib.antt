pub mod Serials
pub mod Schedules
pub mod Orders
pub mod Running
pub mod Allowed
pub mod Standing
pub mod Counting
