pub mod FetchLemmas
pub mod PageLemmas
pub mod SentLemmas
