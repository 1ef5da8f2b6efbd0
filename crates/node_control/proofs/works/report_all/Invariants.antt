use Rattle.node_control.proofs.WorkLemmas.{Reported}
use Rattle.node_control.proofs.works.report_all.Given as goal

abbrev pub invariant-loop-shard : goal.invariant-loop-shard
invariant-loop-shard g l = Reported l.shard l.all (g.D.Desks.view l.initial.desks) (g.D.Desks.view l.desks)
