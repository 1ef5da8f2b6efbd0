-- What steps do to a route row.
use Rattle.std.specs.Prelude.{ℕ, Bool, Some, None, is_none, nat_lt, ◌==◌, ◌&&◌, if◌then◌else◌}
use Rattle.push_model.specs.Cells.{Route, is_place, place_of}

-- the row of that session, touched at that moment
abbrev pub route_at : ℕ → ℕ → ℕ → Route
route_at n a moment = record { node = Some n; at = a; touched = moment }

-- ---- tests

-- the row names exactly that node and moment
abbrev pub is_routed : ℕ → ℕ → Route → Bool
is_routed n a r = is_place n a (place_of r.node r.at)

-- the session of that moment is newer than the row's
abbrev pub is_outrun : ℕ → Route → Bool
is_outrun a r = nat_lt r.at a

-- the row has that moment and no node
abbrev pub is_open : ℕ → Route → Bool
is_open a r = (r.at == a) && is_none r.node

-- ---- steps

abbrev pub without_node : Route → Route
without_node r = record r { node = None }

abbrev pub cleared_if : ℕ → ℕ → Route → Route
cleared_if n a r = if is_routed n a r then without_node r else r

abbrev pub renewed_if : ℕ → ℕ → ℕ → Route → Route
renewed_if n a moment r = if is_open a r then route_at n a moment else r

abbrev pub touched_at : ℕ → Route → Route
touched_at moment r = record r { touched = moment }
