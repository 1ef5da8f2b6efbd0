pub mod PassViews
pub mod Boards
pub mod Rounds
pub mod Sums
