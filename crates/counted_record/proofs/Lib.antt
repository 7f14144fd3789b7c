-- Lemmas of the proofs of this crate.
pub mod Counting
