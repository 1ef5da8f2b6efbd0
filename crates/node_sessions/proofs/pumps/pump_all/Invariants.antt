use Rattle.std.proofs.Common.{ℕ}
use Rattle.node_sessions.specs.Pumps.{PumpsMade, served}
use Rattle.node_sessions.proofs.pumps.pump_all.Given as goal

abbrev pub invariant-loop-count : goal.invariant-loop-count
invariant-loop-count g l = (n : ℕ) × PumpsMade l.place (g.C.Clock.moment l.clock) n
    (served g.D.Desks.view g.K.NodeLink.faults g.G.Draw.given l.fn.desks l.fn.link l.fn.draw l.fn.sessions)
    (served g.D.Desks.view g.K.NodeLink.faults g.G.Draw.given l.desks l.link l.draw l.sessions)
