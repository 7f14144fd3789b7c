pub mod Cuts
pub mod Lines
pub mod Texts
pub mod Growing
pub mod Going
pub mod Turns
pub mod Ending
pub mod Judged
