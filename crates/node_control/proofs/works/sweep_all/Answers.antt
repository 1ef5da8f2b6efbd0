use Rattle.std.proofs.Common.{arith}
use Rattle.node_control.proofs.WorkLemmas.{swept_all, swept_none, swept_on}
use Rattle.node_control.proofs.works.sweep_all.Goals as goal

pub loop-shard-init : goal.loop-shard-init
loop-shard-init g c = swept_none _

pub sweep-requires : goal.sweep-requires
sweep-requires g c = omega (arith, c.loop-shard.invariant.does.calls.same.size, c.count-shard-end.ensures.value)

pub loop-shard-preserved : goal.loop-shard-preserved
loop-shard-preserved g c = swept_on c.loop-shard.shard _ _ _ _ c.loop-shard.invariant c.sweep.ensures.made

pub returns : goal.returns
returns g c = swept_all c.loop-shard.shard _ _ _ (omega (arith, c.count-shard-end.ensures.value)) c.loop-shard.invariant
