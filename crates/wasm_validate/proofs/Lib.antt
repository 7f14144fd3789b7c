pub mod Plain
pub mod OneConstant
pub mod Named
pub mod Whole
