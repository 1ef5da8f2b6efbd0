use Rattle.node_sessions.proofs.RoundLemmas.{pumps_on}
use Rattle.node_sessions.proofs.pumps.pump_all.Goals as goal

pub loop-count-preserved : goal.loop-count-preserved
loop-count-preserved g c = pumps_on _ _ _ _ _ c.loop-count.invariant c.pump_some.ensures
