pub mod LinesSums
pub mod LinesTexts
pub mod Giving
