use Rattle.std.proofs.Common.{sym, arith}
use Rattle.message_rows.proofs.DueRows.{filter-none_past}
use Rattle.message_rows.proofs.rows.Rows.expire.Goals as goal

pub returns-in_default-clause-rows : goal.returns-in_default-clause-rows
returns-in_default-clause-rows c =
    sym (filter-none_past c.args.now c.args.self.now.rows (c.in-Some.ensures.soonest.before c.args.now (omega (arith, c.seconds.ensures.value))))

pub returns-in_default-2-clause-rows : goal.returns-in_default-2-clause-rows
returns-in_default-2-clause-rows c = sym (filter-none_past c.args.now c.args.self.now.rows (c.in_default.ensures.never c.args.now))
