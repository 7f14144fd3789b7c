pub mod held
pub mod OptionalBox
