use Rattle.std.proofs.Common.{◌≡◌, take}
use Rattle.push_model.specs.Rows.{row_page}
use Rattle.message_rows.proofs.pages.row_page.Given as goal

abbrev pub invariant-loop-row : goal.invariant-loop-row
invariant-loop-row l = l.page ≡ row_page l.topic l.sent (take l.row-index l.rows)
