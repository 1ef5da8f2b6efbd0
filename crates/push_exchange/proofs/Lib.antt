pub mod Seen
pub mod PassLists
pub mod RoundLemmas
pub mod DeskParts
pub mod DeskCalls
pub mod SumLemmas
