pub mod Gathering
pub mod Seen
pub mod Told
pub mod Tables
pub mod Few
pub mod Places
