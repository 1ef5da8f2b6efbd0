pub mod Acks
pub mod Fetches
pub mod Pages
