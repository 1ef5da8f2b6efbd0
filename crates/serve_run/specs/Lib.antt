pub mod Doors
pub mod Crews
pub mod Sums
pub mod Worlds
pub mod Statuses
pub mod Serves
pub mod Lasts
pub mod Works
