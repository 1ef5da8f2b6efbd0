pub mod OwnerLemmas
pub mod SpellingLemmas
