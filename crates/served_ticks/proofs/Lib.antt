pub mod Streams
pub mod Lines
pub mod Handed
pub mod Tallies
pub mod Outcomes
pub mod Steps
pub mod Serves
pub mod Ending
