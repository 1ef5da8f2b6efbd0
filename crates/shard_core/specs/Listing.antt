-- The users that a list names.
use Rattle.std.specs.Prelude.{ℕ, Bool, List, Option, filter, flat_map, take}
use Rattle.push_model.specs.declared.ids.Uaid.{Uaid}
use Rattle.push_model.specs.Cells.{Cell}
use Rattle.push_model.specs.ShardSteps.{route_of}

-- the users of the cells of that kind, in order
abbrev pub listed : (Cell → Bool) → List Cell → List (Uaid × Option ℕ × ℕ)
listed p cells = flat_map (λ c. route_of c.uaid c.user) (filter p cells)

-- the first 100 of them
abbrev pub first_listed : (Cell → Bool) → List Cell → List (Uaid × Option ℕ × ℕ)
first_listed p cells = take 100 (listed p cells)
