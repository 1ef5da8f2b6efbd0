-- Which session a route row names.
use Rattle.std.specs.Prelude.{ℕ, ◌&&◌, not, Bool, Option}
use Rattle.push_model.specs.Sessions.{Session}
use Rattle.push_model.specs.Cells.{is_place}

-- it is attached, and it is the session of that place
abbrev pub is_routed_by : Option (ℕ × ℕ) → Session → Bool
is_routed_by place x = not x.displaced && is_place x.node x.at place
