use Rattle.node_sessions.proofs.CloseLemmas.{closed_none, closed_more}
use Rattle.node_sessions.proofs.closes.close_all.Goals as goal

pub loop-count-init : goal.loop-count-init
loop-count-init g c = closed_none _ _ _

pub loop-count-preserved : goal.loop-count-preserved
loop-count-preserved g c = closed_more _ _ _ _ _ _ _ _ _ _ _ c.loop-count.invariant c.in-Some.ensures.items c.close.ensures
