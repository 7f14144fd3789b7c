pub mod Numbers
pub mod Choices
pub mod Words
pub mod Commands
pub mod Shown
