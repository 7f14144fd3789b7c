mod Named
pub mod Accounts
