pub mod Others
pub mod inner
