pub mod Goings
pub mod Jobs
pub mod Openings
pub mod Servers
pub mod Tasks
