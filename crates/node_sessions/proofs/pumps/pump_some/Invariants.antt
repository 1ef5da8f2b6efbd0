use Rattle.node_sessions.specs.Pumps.{served}
use Rattle.node_sessions.proofs.RoundLemmas.{PumpedSo}
use Rattle.node_sessions.proofs.pumps.pump_some.Given as goal

abbrev pub invariant-loop-count : goal.invariant-loop-count
invariant-loop-count g l = PumpedSo l.place (g.C.Clock.moment l.clock) l.i
    (served g.D.Desks.view g.K.NodeLink.faults g.G.Draw.given l.fn.desks l.fn.link l.fn.draw l.fn.sessions)
    (served g.D.Desks.view g.K.NodeLink.faults g.G.Draw.given l.desks l.link l.draw l.sessions)
