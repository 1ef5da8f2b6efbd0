pub mod Pumps
pub mod Served
