-- Definitions that private functions and proofs cite alone.
pub mod Checks
pub mod Chosen
pub mod Taken
