pub mod Keys
pub mod Chosen
pub mod Arranged
pub mod Standing
pub mod Walks
pub mod Turns
pub mod Steps
pub mod Frames
