pub mod Around
pub mod Paid
pub mod InTurn
pub mod Made
pub mod Turned
pub mod Hatched
pub mod Sited
pub mod Begun
