use Rattle.std.proofs.Common.{rules}
use Rattle.push_exchange.proofs.RoundLemmas.{opened_none, opened_step}
use Rattle.push_exchange.proofs.hall.open_all.Goals as goal

pub loop-number-init : goal.loop-number-init
loop-number-init c = opened_none _ _ (search rules) (search rules)

pub loop-number-preserved : goal.loop-number-preserved
loop-number-preserved c = opened_step _ _ _ _ _ _ _ c.loop-number.invariant c.in_ok-add.ensures c.in_ok-add-2.ensures c.in_ok-opened.ensures
