pub mod Accounts
pub mod BaseForms
pub mod Contents
pub mod Numbers
pub mod TickForms
pub mod inner
