use Rattle.push_model.specs.declared.step.Step.TheVariants.{Kill}
use Rattle.node_control.proofs.WorkLemmas.{Killed}
use Rattle.node_control.proofs.works.kill_all.Given as goal

abbrev pub invariant-loop-shard : goal.invariant-loop-shard
invariant-loop-shard g l = Killed (Kill l.node) l.shard l.held l.orphans (g.D.Desks.view l.initial.desks) (g.D.Desks.view l.desks)
