pub mod Calls
pub mod Desks
pub mod Replies
pub mod Agreement
pub mod inner
