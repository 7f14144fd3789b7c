pub mod Lists
pub mod Split
pub mod Apart
pub mod Changes
