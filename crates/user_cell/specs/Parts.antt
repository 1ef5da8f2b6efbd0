-- How a user's cell is made up of its parts.
use Rattle.std.specs.Prelude.{◌≡◌, ℕ, ◌≤◌, List, [], Option, Some, None, length}
use Rattle.push_model.specs.declared.parts.Channel.{Channel}
use Rattle.push_model.specs.declared.parts.Row.{Row}
use Rattle.push_model.specs.Cells.{Route, User, Cell}
use Rattle.push_model.specs.Covering.{held_in}

-- the user, if there is a route row
abbrev pub user_of : Option Route → List Channel → List Row → Option User
user_of None channels rows = None
user_of (Some r) channels rows = Some (record { route = r; channels = channels; rows = rows })

-- where there is no user, nothing is left of one
abbrev pub IsBare : Option Route → List Channel → List Row → Type 0
IsBare None channels rows = (channels ≡ []) × (rows ≡ [])
IsBare (Some r) channels rows = Unit {0}

-- a handover has the room that it needs: a row for each message that is held, and a saver for each session
pub record HasRoom (c : Cell) (for_rows for_savers : ℕ) : Type 0 where
  pub rows : held_in c ≤ for_rows
  pub savers : length c.sessions ≤ for_savers
