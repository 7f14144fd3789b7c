pub mod Given
pub mod Summaries
pub mod Serving
pub mod inner
