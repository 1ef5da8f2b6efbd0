pub mod Shards
pub mod Readings
pub mod Routes
pub mod Flights
pub mod Went
pub mod Causes
