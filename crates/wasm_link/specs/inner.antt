-- Definitions that private functions and proofs cite alone.
pub mod Beginnings
pub mod Images
pub mod Learned
