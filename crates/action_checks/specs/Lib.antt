pub mod Scenes
pub mod Plans
pub mod inner
