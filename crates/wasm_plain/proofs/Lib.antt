pub mod Accesses
pub mod Doing
pub mod Globals
pub mod Locals
pub mod Operands
pub mod Results
pub mod Signatures
