-- The pumps of a loop's sessions.
use Rattle.std.specs.Prelude.{◌≡◌, ℕ, zero, suc, Bool, true, false, List, Option, Some, slice_get, slice_set, if◌then◌else◌}
use Rattle.std.specs.List.{remove}
use Rattle.push_model.specs.DeskViews.{DeskView}
use Rattle.session_front.specs.Pumps.{PumpMade}
use Rattle.session_front.specs.declared.live.Place.{Place}
use Rattle.session_front.specs.declared.live.Pumped.{Pumped}
use Rattle.session_front.specs.declared.live.Pumped.TheVariants.{Moved, Idle, Done}
use Rattle.node_sessions.specs.Seats.{SeatView, seat_sides}

-- what is seen of the shards, the link's count of faults, the bytes that the draw gave, where it tells them, and the sessions
pub record Served : Type 0 where
  pub desks : DeskView
  pub faults : ℕ
  pub drawn : Option (List ℕ)
  pub seats : List SeatView

abbrev pub served : {D K G : Type 0} → (D → DeskView) → (K → ℕ) → (G → Option (List ℕ)) → D → K → G → List SeatView → Served
served view faults drawn desks link draw seats =
    record { desks = view desks; faults = faults link; drawn = drawn draw; seats = seats }

abbrev pub is_over : Pumped → Bool
is_over (Done end) = true
is_over Moved = false
is_over Idle = false

-- a session that is over leaves its place, and any other stays
abbrev pub seats_after : Pumped → List SeatView → ℕ → SeatView → List SeatView
seats_after pumped seats i next = if is_over pumped then remove seats i else slice_set seats i next

-- the session at the place i was pumped, and no other changed
pub record SeatPumped (place : Place) (moment : Option ℕ) (i : ℕ) (pumped : Pumped) (x y : Served) : Type 0 where
  pub was : SeatView
  pub is : slice_get x.seats i ≡ Some was
  pub next : SeatView
  pub made : PumpMade place was.live next.live moment pumped (seat_sides x.desks was) (seat_sides y.desks next) x.drawn y.drawn x.faults y.faults
  pub seats : y.seats ≡ seats_after pumped x.seats i next

-- so many pumps were made
abbrev pub PumpsMade : Place → Option ℕ → ℕ → Served → Served → Type 0
PumpsMade place moment zero x y = y ≡ x
PumpsMade place moment (suc n) x z =
    (y : Served) × (i : ℕ) × (pumped : Pumped) × PumpsMade place moment n x y × SeatPumped place moment i pumped y z
