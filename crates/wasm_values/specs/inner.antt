-- Definitions that private functions and proofs cite alone.
pub mod Nested
pub mod Skimmed
pub mod Opens
pub mod Listed
