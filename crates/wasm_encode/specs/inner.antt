-- Definitions that private functions and proofs cite alone.
pub mod Gains
pub mod Parts
pub mod Samples
