use Rattle.push_model.specs.Cells.{is_saver}
use Rattle.push_model.specs.SaverSteps.{saver_at}
use Rattle.push_model.proofs.KeyedLemmas.{changed_at}
use Rattle.shutdown_save.proofs.advance.move_saver.Goals as goal

pub returns-in-Moved-clause-savers : goal.returns-in-Moved-clause-savers
returns-in-Moved-clause-savers c = λ s at. rw (c.in-Moved.is, c.go_on.ensures) (changed_at (is_saver s) (saver_at c.in-Moved.stage) _ _ c.index_mut.result.now at c.index_mut.ensures.value)
