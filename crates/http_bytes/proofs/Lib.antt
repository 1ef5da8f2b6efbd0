pub mod Flow
pub mod Breaking
mod Waiting
mod Wholes
mod Putting
mod Rooms
mod NumberLemmas
