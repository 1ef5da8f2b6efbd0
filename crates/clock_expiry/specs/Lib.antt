pub mod Dues
pub mod Expiry
