use Rattle.std.proofs.Common.{ℕ, []}
use Rattle.node_sessions.specs.Pumps.{served}
use Rattle.node_sessions.specs.Loops.{RoundsMade}
use Rattle.node_sessions.proofs.loops.connection_loop.Given as goal

abbrev pub invariant-loop : goal.invariant-loop
invariant-loop g l = (n : ℕ) × RoundsMade l.place (g.C.Clock.moment l.clock) n (g.L.Listener.given l.fn.listener) (g.L.Listener.given l.listener)
    (served g.D.Desks.view g.K.NodeLink.faults g.G.Draw.given l.fn.desks l.fn.link l.fn.draw [])
    (served g.D.Desks.view g.K.NodeLink.faults g.G.Draw.given l.desks l.link l.draw l.sessions)
