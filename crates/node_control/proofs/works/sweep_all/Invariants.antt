use Rattle.node_control.proofs.WorkLemmas.{SweptTo}
use Rattle.node_control.proofs.works.sweep_all.Given as goal

abbrev pub invariant-loop-shard : goal.invariant-loop-shard
invariant-loop-shard g l = SweptTo l.shard (g.D.Desks.view l.initial.desks) (g.D.Desks.view l.desks)
