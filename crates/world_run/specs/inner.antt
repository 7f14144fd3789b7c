-- Definitions that private functions and proofs cite alone.
pub mod Stages
pub mod Held
pub mod Crashes
