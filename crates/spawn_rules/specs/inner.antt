pub mod Paying
pub mod Hatching
