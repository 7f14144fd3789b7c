pub mod Equal
pub mod Listing
pub mod Replays
pub mod SerialsLeft
pub mod Untested
