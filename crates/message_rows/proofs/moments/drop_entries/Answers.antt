use Rattle.std.proofs.Common.{arith}
use Rattle.message_rows.specs.Going.{stays}
use Rattle.message_rows.proofs.DueRows.{dropped_more}
use Rattle.message_rows.proofs.moments.drop_entries.Goals as goal

pub loop-row-preserved : goal.loop-row-preserved
loop-row-preserved c = (
  dropped_more (stays c.args.going.now) c.args.rows.now c.loop-row.row-index c.row-item.result c.loop-row.dues.entries c.drop_entry.new.dues.entries
      (omega arith) c.row-item.is c.loop-row.invariant.0 c.drop_entry.ensures.entries,
  omega (arith, c.loop-row.invariant.1, c.drop_entry.ensures.kept),
)
