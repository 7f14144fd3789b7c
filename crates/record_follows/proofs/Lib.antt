pub mod Placing
pub mod Lasting
pub mod Steps
pub mod Taking
