pub mod DueOrder
pub mod DueLemmas
