pub mod CoveringLemmas
pub mod SavingLemmas
