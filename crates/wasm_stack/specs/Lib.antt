pub mod Held
pub mod View
pub mod Standing
pub mod inner
