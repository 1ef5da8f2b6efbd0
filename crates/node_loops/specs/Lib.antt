pub mod ListGateValue
pub mod ListGates
pub mod ShareValue
pub mod Shares
pub mod Together
