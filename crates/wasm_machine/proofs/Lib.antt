pub mod Rooms
pub mod Executed
pub mod Arguments
pub mod Called
pub mod Heights
pub mod Looping
pub mod Invoked
