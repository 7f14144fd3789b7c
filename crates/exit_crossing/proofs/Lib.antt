mod Rooms
mod Mirrored
mod Landed
mod Gone
mod Found
mod Going
mod Named
mod Taken
mod Crossed
mod Border
mod Underway
mod Sound
mod Resting
mod Rested
mod Members
pub mod Sorted
