pub mod Passed
pub mod Worn
pub mod Filled
