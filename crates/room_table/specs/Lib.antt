pub mod Controllers
pub mod Stores
pub mod Tables
pub mod Tallies
pub mod inner
