pub mod Context
pub mod Operations
pub mod Typing
pub mod Laws
pub mod Functions
pub mod Views
pub mod inner
