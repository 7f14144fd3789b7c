pub mod Frames
pub mod Ends
pub mod Once
pub mod Reading
pub mod Fronts
