-- What one accept of the loop does.
use Rattle.std.specs.Prelude.{◌≡◌, ◌⊎◌, ◌<◌, ◌++◌, ℕ, Bool, List, [], ◌∷◌, length, if◌then◌else◌}
use Rattle.push_outside.specs.Counts.{next_count}
use Rattle.node_sessions.specs.Seats.{SeatView, new_seat}

-- below 256 sessions a wire was given, and taken: its session begins behind the others, or the wire was let go
pub record WireTaken (given after : ℕ) (xs ys : List SeatView) : Type 0 where
  pub room : length xs < 256
  pub count : after ≡ next_count given
  pub began : Bool
  pub seats : ys ≡ if began then xs ++ new_seat ∷ [] else xs

-- or no wire was given, and nothing changed
abbrev pub AcceptMade : ℕ → ℕ → List SeatView → List SeatView → Type 0
AcceptMade given after xs ys = ((after ≡ given) × (ys ≡ xs)) ⊎ WireTaken given after xs ys
