pub mod Comments
pub mod Strings
pub mod Lexing
pub mod Numbers
