pub mod Plain
pub mod Threads
pub mod Calls
pub mod Acts
pub mod Steps
pub mod Runs
pub mod Ends
