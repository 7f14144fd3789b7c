pub mod Agreeing
pub mod Arguments
pub mod Levels
pub mod Replying
pub mod SeenStands
pub mod Wanting
pub mod Parts
pub mod Planned
