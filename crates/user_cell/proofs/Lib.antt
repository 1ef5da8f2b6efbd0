mod Held
mod HeldActors
mod NudgeLemmas
mod PartsLemmas
mod Room
mod SaveLemmas
mod StoreLemmas
