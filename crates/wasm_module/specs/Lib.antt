pub mod Entries
pub mod Sections
pub mod Limits
pub mod Faults
pub mod inner
