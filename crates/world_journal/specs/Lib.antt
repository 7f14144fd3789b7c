pub mod Journals
pub mod Recovering
pub mod Faults
pub mod Answers
pub mod Counted
pub mod Walking
pub mod inner
