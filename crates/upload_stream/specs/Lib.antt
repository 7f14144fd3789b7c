pub mod Entries
pub mod Streams
pub mod inner
