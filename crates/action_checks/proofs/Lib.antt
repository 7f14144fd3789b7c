pub mod Allowed
pub mod Passing
pub mod Towards
