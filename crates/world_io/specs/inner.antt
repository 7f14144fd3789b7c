pub mod Latest
pub mod Propositions
