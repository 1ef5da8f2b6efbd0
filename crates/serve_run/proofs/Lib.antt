pub mod CrewLemmas
pub mod HouseLemmas
pub mod EndLemmas
pub mod WorkLemmas
pub mod ServeLemmas
