mod CloseLemmas
mod DeskRuns
mod LawLemmas
mod RoundLemmas
mod SeatLemmas
