mod Scans
mod Lexed
mod Signed
mod Slots
