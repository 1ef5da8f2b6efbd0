-- Who is given the message of a flight.
use Rattle.std.specs.Prelude.{◌≡◌, ℕ, ◌<◌, true, false, List, length, Option, Some, None, find, slice_index_or}
use Rattle.push_model.specs.declared.parts.FlightRow.{FlightRow}
use Rattle.push_model.specs.Keyed.{FoundAt}
use Rattle.push_model.specs.Sessions.{Session, has_room, is_attached_at}
use Rattle.push_model.specs.Cells.{User}
use Rattle.push_model.specs.FlightSteps.{can_give}

-- a session stands at the index i, and can hold one message more
pub record CanHold (i : ℕ) (xs : List Session) : Type 0 where
  pub within : i < length xs
  pub room : (d : Session) → has_room (slice_index_or xs i d) ≡ true

-- the session attached at n stands at the index i, and the message can be given there
pub record IsGivenAt (n moment : ℕ) (f : FlightRow) (user : Option User) (xs : List Session) (i : ℕ) : Type 0 where
  pub place : FoundAt (is_attached_at n) xs i
  pub given : can_give (find (is_attached_at n) xs) moment f user ≡ true
  pub room : CanHold i xs

-- the index of the session attached at n, if the message can be given there
abbrev pub IsReceiver : ℕ → ℕ → FlightRow → Option User → List Session → Option ℕ → Type 0
IsReceiver n moment f user xs None = can_give (find (is_attached_at n) xs) moment f user ≡ false
IsReceiver n moment f user xs (Some i) = IsGivenAt n moment f user xs i
