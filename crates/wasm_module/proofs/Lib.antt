pub mod Lifts
pub mod Ordered
pub mod OnceModule
pub mod Refused
pub mod Locals
pub mod Runs
