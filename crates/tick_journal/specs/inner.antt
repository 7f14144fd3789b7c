-- Definitions that private functions and proofs cite alone.
pub mod Base
pub mod Lists
pub mod Reading
pub mod Rows
