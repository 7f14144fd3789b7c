-- Definitions that private functions and proofs cite alone.
pub mod Chains
pub mod Kept
pub mod Ordered
pub mod Owners
pub mod Placed
pub mod Tallied
