pub mod Linking
pub mod Callee
pub mod Made
pub mod Kept
pub mod inner
