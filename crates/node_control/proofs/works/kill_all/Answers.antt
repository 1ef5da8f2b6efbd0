use Rattle.std.proofs.Common.{arith}
use Rattle.push_model.specs.declared.step.Step.TheVariants.{Kill}
use Rattle.node_control.proofs.WorkLemmas.{killed_all, killed_more, killed_none}
use Rattle.node_control.proofs.works.kill_all.Goals as goal

pub loop-shard-init : goal.loop-shard-init
loop-shard-init g c = killed_none (Kill c.args.node) _

pub kill-killed-requires : goal.kill-killed-requires
kill-killed-requires g c = omega (arith, c.loop-shard.invariant.up_to.does.calls.same.size, c.count-shard-end.ensures.value)

pub loop-shard-preserved : goal.loop-shard-preserved
loop-shard-preserved g c =
    let k = c.kill-killed.ensures in
    killed_more (Kill c.args.node) c.loop-shard.shard c.loop-shard.held c.loop-shard.orphans c.kill-killed.result.0 c.kill-killed.result.1 _ _ _ _ _ k.0 c.loop-shard.invariant k.1 k.2 k.3
    (omega (arith, c.saturating_add-held.ensures)) (omega (arith, c.saturating_add-orphans.ensures))

pub returns : goal.returns
returns g c = killed_all (Kill c.args.node) c.loop-shard.shard c.loop-shard.held c.loop-shard.orphans _ _ _ (omega (arith, c.count-shard-end.ensures.value)) c.loop-shard.invariant
