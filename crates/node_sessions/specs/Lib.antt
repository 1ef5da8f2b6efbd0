pub mod Seats
pub mod Accepts
pub mod Mail
pub mod Pumps
pub mod Closes
pub mod Loops
