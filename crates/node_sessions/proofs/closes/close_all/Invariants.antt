use Rattle.node_sessions.proofs.CloseLemmas.{ClosedSo}
use Rattle.node_sessions.proofs.closes.close_all.Given as goal

abbrev pub invariant-loop-count : goal.invariant-loop-count
invariant-loop-count g l = ClosedSo l.initial.seats.items l.seats.items l.count (g.D.Desks.view l.fn.desks) (g.D.Desks.view l.desks) (g.K.NodeLink.faults l.fn.link) (g.K.NodeLink.faults l.link)
