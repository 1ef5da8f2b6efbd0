mod PumpLemmas
mod ServeLemmas
