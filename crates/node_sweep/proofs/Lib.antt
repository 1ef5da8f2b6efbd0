pub mod EntryLemmas
pub mod SweepLemmas
