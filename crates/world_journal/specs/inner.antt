-- Definitions that private functions and proofs cite alone.
pub mod Found
pub mod FaultsOf
pub mod Counting
pub mod Uploads
