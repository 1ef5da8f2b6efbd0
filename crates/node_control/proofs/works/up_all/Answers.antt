use Rattle.std.proofs.Common.{arith}
use Rattle.push_model.specs.declared.step.Step.TheVariants.{Up}
use Rattle.node_control.proofs.WorkLemmas.{up_to_all, up_to_more, up_to_none}
use Rattle.node_control.proofs.works.up_all.Goals as goal

pub loop-shard-init : goal.loop-shard-init
loop-shard-init g c = up_to_none (Up c.args.node) _

pub up-requires : goal.up-requires
up-requires g c = omega (arith, c.loop-shard.invariant.does.calls.same.size, c.count-shard-end.ensures.value)

pub loop-shard-preserved : goal.loop-shard-preserved
loop-shard-preserved g c = up_to_more (Up c.args.node) c.loop-shard.shard _ _ _ c.up.ensures.0 c.loop-shard.invariant c.up.ensures.1

pub returns : goal.returns
returns g c = up_to_all (Up c.args.node) c.loop-shard.shard _ _ _ (omega (arith, c.count-shard-end.ensures.value)) c.loop-shard.invariant
