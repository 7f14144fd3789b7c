pub mod ModuleCrossing
pub mod Crossing
pub mod Ran
