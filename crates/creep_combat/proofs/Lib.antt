pub mod Found
pub mod Struck
pub mod Tiles
