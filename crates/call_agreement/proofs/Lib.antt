pub mod Standing
pub mod Claimed
pub mod Sited
