use Rattle.node_sessions.proofs.RoundLemmas.{pumped_none, pumped_more, pumped_on}
use Rattle.node_sessions.proofs.pumps.pump_some.Goals as goal

pub loop-count-init : goal.loop-count-init
loop-count-init g c = pumped_none _ _ _ _ c.requires

pub loop-count-preserved : goal.loop-count-preserved
loop-count-preserved g c = pumped_on _ _ _ _ _ _ c.loop-count.invariant c.in-Moved.ensures

pub pump_at-requires : goal.pump_at-requires
pump_at-requires g c = c.loop-count.invariant.within

pub returns-in-Idle : goal.returns-in-Idle
returns-in-Idle g c = pumped_more _ _ _ _ _ _ _ c.loop-count.invariant c.in-Idle.ensures

pub returns-in-Done : goal.returns-in-Done
returns-in-Done g c = pumped_more _ _ _ _ _ _ _ c.loop-count.invariant c.in-Done.ensures
