use Rattle.std.proofs.Common.{◌≡◌, ◌≤◌, ◌++◌, take, drop, filter}
use Rattle.message_rows.specs.RowDues.{dues_of}
use Rattle.message_rows.specs.Going.{stays}
use Rattle.message_rows.proofs.moments.drop_entries.Given as goal

abbrev pub invariant-loop-row : goal.invariant-loop-row
invariant-loop-row l =
    (l.dues.entries ≡ dues_of (filter (stays l.going) (take l.row-index l.rows) ++ drop l.row-index l.rows)) × (l.fn.dues.spare ≤ l.dues.spare)
