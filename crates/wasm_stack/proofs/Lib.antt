pub mod Floors
pub mod Levels
pub mod Branching
