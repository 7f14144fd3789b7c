pub mod Admission
pub mod Emitted
