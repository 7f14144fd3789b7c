pub mod Entries
pub mod Judged
pub mod Parts
pub mod Words
