pub mod Geometry
pub mod Names
pub mod Tiles
