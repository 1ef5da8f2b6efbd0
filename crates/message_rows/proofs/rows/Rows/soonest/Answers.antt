use Rattle.message_rows.proofs.DueRows.{never_if, soonest_if}
use Rattle.message_rows.proofs.rows.Rows.soonest.Goals as goal

pub returns-clause-never : goal.returns-clause-never
returns-clause-never c =
    rw (← c.self.view_is) (never_if c.soonest.result c.self.inside.rows.items c.self.inside.dues.entries c.self.invariant.1.entries c.soonest.ensures.none)

pub returns-clause-soonest : goal.returns-clause-soonest
returns-clause-soonest c =
    rw (← c.self.view_is) (soonest_if c.soonest.result c.self.inside.rows.items c.self.inside.dues.entries c.self.invariant.1.entries c.soonest.ensures.soonest)
