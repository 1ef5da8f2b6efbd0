use Rattle.shutdown_save.proofs.SavingLemmas.{saved_at}
use Rattle.shutdown_save.proofs.rows.SaverRows.save_first.Goals as goal

pub returns-clause-savers : goal.returns-clause-savers
returns-clause-savers c =
    rw (c.save_next.ensures.saver, ← c.self.view_is)
    (saved_at c.args.s c.self.inside.savers.items c.in-Some.place c.index_mut.result.now (rw c.deref.ensures.value at c.in-Some.ensures) c.index_mut.ensures.value c.save_next.result.id)
