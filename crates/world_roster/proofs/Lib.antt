pub mod Listing
pub mod Known
