pub mod Piles
pub mod Parts
