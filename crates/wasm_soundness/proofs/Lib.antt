pub mod Values
pub mod Pending
pub mod Plain
pub mod Blocks
pub mod Branches
pub mod Calls
pub mod Ends
