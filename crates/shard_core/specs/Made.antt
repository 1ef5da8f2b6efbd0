-- What a step on one user makes of the cells, and of the world.
use Rattle.std.specs.Prelude.{◌≡◌, ℕ, true, List, Option, Some, None, if◌then◌else◌}
use Rattle.std.specs.Map.{lookup}
use Rattle.std.specs.Ordering.{nat_cmp}
use Rattle.std.specs.BTreeMap.{is_at}
use Rattle.push_model.specs.declared.ids.Uaid.{Uaid}
use Rattle.push_model.specs.declared.ids.Op.{Op}
use Rattle.push_model.specs.declared.reply.Reply.{Reply}
use Rattle.push_model.specs.Cells.{Cell, is_there}
use Rattle.push_model.specs.Kinds.{costs_memory}
use Rattle.push_model.specs.Worlds.{World, cell_at, with_cell, on_cell, on_flight}
use Rattle.push_model.specs.Steps.{Action, OnUser, OnFlight, OnShard, Does}

-- ---- of the cells

-- the cell, if it stands in the world
abbrev pub standing : Cell → Option Cell
standing c = if is_there c then Some c else None

-- the cells es become fs: the cell at u is v then, and each other cell stays
pub record Puts (u : Uaid) (v : Cell) (es fs : List (ℕ × Cell)) : Type 0 where
  pub entries : fs ≡ with_cell u v es
  pub updates : (q : ℕ) → lookup (is_at (nat_cmp q)) fs ≡ (if is_at (nat_cmp u.0) q then standing v else lookup (is_at (nat_cmp q)) es)

-- a step on the cell of that user leaves these cells, and replies that
pub record StepsTo (a : Action) (u : Uaid) (es fs : List (ℕ × Cell)) (r : Reply) : Type 0 where
  pub cell : Cell
  pub does : Does a (cell_at es u) (record { cell = cell; reply = r })
  pub puts : Puts u cell es fs

-- ---- of the world

-- made on the cell of that user it leaves this world, and replies that
abbrev pub DoesAt : Action → Uaid → World → World → Reply → Type 0
DoesAt (OnUser v f) u w n r = on_cell w u f ≡ (n, r)
DoesAt (OnFlight o f) u w n r = on_cell w u f ≡ (n, r)
DoesAt (OnShard f) u w n r = ⊥

-- its reply costs memory there
abbrev pub CostsAt : Action → Uaid → World → Type 0
CostsAt (OnUser v f) u w = costs_memory (on_cell w u f).1 ≡ true
CostsAt (OnFlight o f) u w = costs_memory (on_cell w u f).1 ≡ true
CostsAt (OnShard f) u w = ⊥

-- the same on the cell that has that flight
abbrev pub DoesOnFlight : Action → Op → World → World → Reply → Type 0
DoesOnFlight (OnUser v f) o w n r = on_flight w o f ≡ (n, r)
DoesOnFlight (OnFlight k f) o w n r = on_flight w o f ≡ (n, r)
DoesOnFlight (OnShard f) o w n r = ⊥

abbrev pub CostsOnFlight : Action → Op → World → Type 0
CostsOnFlight (OnUser v f) o w = costs_memory (on_flight w o f).1 ≡ true
CostsOnFlight (OnFlight k f) o w = costs_memory (on_flight w o f).1 ≡ true
CostsOnFlight (OnShard f) o w = ⊥
