-- Definitions that private functions and proofs cite alone.
pub mod Adds
pub mod Ranges
pub mod Runs
pub mod Scopes
pub mod Stands
pub mod Tables
