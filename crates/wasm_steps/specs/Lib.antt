pub mod Program
pub mod Plain
pub mod Threads
pub mod Steps
pub mod Runs
pub mod Laws
