use Rattle.push_model.specs.declared.step.Step.TheVariants.{Up}
use Rattle.node_control.proofs.WorkLemmas.{UpTo}
use Rattle.node_control.proofs.works.up_all.Given as goal

abbrev pub invariant-loop-shard : goal.invariant-loop-shard
invariant-loop-shard g l = UpTo (Up l.node) l.shard (g.D.Desks.view l.initial.desks) (g.D.Desks.view l.desks)
