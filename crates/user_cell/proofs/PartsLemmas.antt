-- A user, by the parts of a cell.
use Rattle.std.proofs.Common.{◌≡◌, List, refl, sym, ap, Option, Some, None}
use Rattle.std.specs.Prelude.{map}
use Rattle.push_model.specs.declared.ids.MsgId.{MsgId}
use Rattle.push_model.specs.declared.parts.Channel.{Channel}
use Rattle.push_model.specs.declared.parts.Row.{Row}
use Rattle.push_model.specs.Keyed.{without_first}
use Rattle.push_model.specs.Rows.{is_row}
use Rattle.push_model.specs.Cells.{Route, rows_of}
use Rattle.push_model.specs.SessionSteps.{without_row}
use Rattle.user_cell.specs.Parts.{user_of, IsBare}

pub rows_are : (o : Option Route) (xs : List Channel) (rs : List Row) → IsBare o xs rs → rows_of (user_of o xs rs) ≡ rs
rows_are None xs rs h = sym h.1
rows_are (Some r) xs rs h = refl

pub without_row_is : (i : MsgId) (o : Option Route) (xs : List Channel) (rs : List Row) → without_row i (user_of o xs rs) ≡ user_of o xs (without_first (is_row i) rs)
without_row_is i None xs rs = refl
without_row_is i (Some r) xs rs = refl

pub bare_without_row : (i : MsgId) (o : Option Route) (xs : List Channel) (rs : List Row) → IsBare o xs rs → IsBare o xs (without_first (is_row i) rs)
bare_without_row i None xs rs h = (h.0, ap (without_first (is_row i)) h.1)
bare_without_row i (Some r) xs rs h = tt

pub bare_map : (f : Row → Row) (o : Option Route) (xs : List Channel) (rs : List Row) → IsBare o xs rs → IsBare o xs (map f rs)
bare_map f None xs rs h = (h.0, ap (map f) h.1)
bare_map f (Some r) xs rs h = tt
