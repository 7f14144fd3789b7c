pub mod Follows
pub mod Courses
pub mod inner
