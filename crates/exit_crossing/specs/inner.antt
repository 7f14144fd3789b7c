-- Definitions that private functions and proofs cite alone.
pub mod Landings
pub mod Resting
pub mod Leaving
