pub mod Attaching
pub mod Routed
