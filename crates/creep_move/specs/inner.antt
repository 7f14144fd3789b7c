-- Definitions that private functions and proofs cite alone.
pub mod Arrivals
pub mod Walk
pub mod Decided
pub mod Landing
