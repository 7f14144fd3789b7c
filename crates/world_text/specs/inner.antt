-- Definitions that private functions and proofs cite alone.
pub mod Drafts
pub mod Readings
