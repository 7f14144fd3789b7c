-- Definitions that private functions and proofs cite alone.
pub mod Ticks
