pub mod Terms
pub mod Asks
