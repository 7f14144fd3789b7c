pub mod Keys
pub mod Digits
pub mod Facts
pub mod FirstFaults
pub mod Files
pub mod Written
