pub mod Typed
pub mod Ready
pub mod Laws
