pub mod SeatLemmas
pub mod LoneLemmas
