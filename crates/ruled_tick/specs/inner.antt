-- Definitions that private functions and proofs cite alone.
pub mod Ticked
pub mod Entered
