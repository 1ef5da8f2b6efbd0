-- What the clock does: rows that are due go.
use Rattle.std.specs.Prelude.{ℕ, Option, Some, None, filter, not}
use Rattle.push_model.specs.Messages.{is_expired}
use Rattle.push_model.specs.Cells.{Cell, User}

abbrev pub without_due : ℕ → Option User → Option User
without_due moment None = None
without_due moment (Some u) = Some (record u { rows = filter (λ r. not (is_expired moment r.message)) u.rows })

abbrev pub ticked : ℕ → Cell → Cell
ticked moment c = record c { user = without_due moment c.user }
