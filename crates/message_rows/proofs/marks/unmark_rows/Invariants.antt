use Rattle.std.proofs.Common.{◌≡◌, ◌++◌, take, drop}
use Rattle.std.specs.Prelude.{map}
use Rattle.push_model.specs.Cells.{unmarked_row}
use Rattle.message_rows.proofs.marks.unmark_rows.Given as goal

abbrev pub invariant-loop-row : goal.invariant-loop-row
invariant-loop-row l = l.rows ≡ map unmarked_row (take l.row-index l.fn.rows) ++ drop l.row-index l.fn.rows
