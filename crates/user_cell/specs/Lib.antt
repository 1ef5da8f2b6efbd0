pub mod Flights
pub mod Joining
pub mod Nudges
pub mod Parts
pub mod Places
pub mod Saving
pub mod Storing
