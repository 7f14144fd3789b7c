pub mod Words
pub mod Asked
pub mod Replies
pub mod Session
pub mod Served
pub mod inner
