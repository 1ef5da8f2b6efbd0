pub mod Commands
pub mod Fronts
pub mod Sums
pub mod Works
pub mod Lines
pub mod Controls
pub mod Steps
pub mod Tallies
