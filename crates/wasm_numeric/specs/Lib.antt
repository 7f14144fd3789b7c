pub mod Integers
pub mod Opcodes
