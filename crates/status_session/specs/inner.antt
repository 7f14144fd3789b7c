-- Definitions that private functions and proofs cite alone.
pub mod Hearing
pub mod Told
pub mod Turned
