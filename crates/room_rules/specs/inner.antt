-- Definitions that private functions of rules and proofs cite alone.
pub mod Damage
