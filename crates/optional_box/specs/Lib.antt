pub mod Held
pub mod formers
