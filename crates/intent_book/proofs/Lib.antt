pub mod Canonical
pub mod Moved
pub mod Numbers
pub mod Orders
