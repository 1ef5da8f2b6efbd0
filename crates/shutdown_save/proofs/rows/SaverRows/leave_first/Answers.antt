use Rattle.std.proofs.Common.{sym}
use Rattle.push_model.specs.SaverSteps.{with_held}
use Rattle.shutdown_save.specs.Savers.{held_by, rest}
use Rattle.shutdown_save.proofs.SavingLemmas.{left_at}
use Rattle.shutdown_save.proofs.rows.SaverRows.leave_first.Goals as goal

pub returns-in-Some-clause-savers : goal.returns-in-Some-clause-savers
returns-in-Some-clause-savers c =
    rw (c.leave_next.ensures, ← c.self.view_is)
    (left_at c.args.s c.self.inside.savers.items c.in-Some.place c.index_mut.result.now (rw c.deref.ensures.value at c.in-Some.ensures) c.index_mut.ensures.value)

pub returns-in-None-clause-savers : goal.returns-in-None-clause-savers
returns-in-None-clause-savers c =
    let none = rw c.deref.ensures.value at c.in-None.ensures in
    rw (← c.self.view_is) (sym (none.changed (with_held (rest (held_by c.args.s c.self.inside.savers.items)))))
