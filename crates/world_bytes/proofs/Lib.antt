pub mod Fields
pub mod Intents
pub mod Lists
pub mod Rooms
pub mod Words
pub mod Written
