-- Moments below which no row is due.
use Rattle.std.specs.Prelude.{◌≡◌, ℕ, ◌<◌, false, List}
use Rattle.std.specs.List.{list_any}
use Rattle.std.specs.Option.{IfSome}
use Rattle.std.specs.Map.{lookup}
use Rattle.std.specs.Ordering.{nat_cmp}
use Rattle.std.specs.BTreeMap.{is_at}
use Rattle.push_model.specs.Cells.{Cell, rows_of}
use Rattle.message_rows.specs.RowStock.{is_past}

-- at no moment below it is a row of the cell expired
abbrev pub NoneDue : ℕ → Cell → Type 0
NoneDue t c = (moment : ℕ) → moment < t → list_any (is_past moment) (rows_of c.user) ≡ false

-- nor a row of any cell
abbrev pub NoneDueIn : ℕ → List (ℕ × Cell) → Type 0
NoneDueIn t es = (n : ℕ) → IfSome (lookup (is_at (nat_cmp n)) es) (NoneDue t)
