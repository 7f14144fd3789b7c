pub mod Bytes
pub mod Memory
pub mod Tables
pub mod inner
