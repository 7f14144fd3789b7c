pub mod Fronts
pub mod Texts
pub mod Unsigned
pub mod Signed
pub mod Written
pub mod WrittenSigned
