pub mod Handed
pub mod Loads
pub mod Standing
pub mod Taken
