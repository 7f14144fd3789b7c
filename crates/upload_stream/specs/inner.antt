-- Definitions that a model, private functions and proofs cite alone.
pub mod Reading
