pub mod Tokens
pub mod Numbers
pub mod Fronts
pub mod Words
