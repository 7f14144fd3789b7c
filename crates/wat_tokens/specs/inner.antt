-- Definitions that private functions and proofs cite alone.
pub mod Fronts
pub mod Naturals
pub mod Signs
pub mod Slots
