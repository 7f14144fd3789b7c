pub mod Drawn
pub mod Rows
pub mod Lines
pub mod Encodes
pub mod Wholes
pub mod Streamed
pub mod Listed
