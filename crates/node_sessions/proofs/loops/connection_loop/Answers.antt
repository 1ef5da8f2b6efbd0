use Rattle.std.proofs.Common.{[]}
use Rattle.node_sessions.specs.Pumps.{served}
use Rattle.node_sessions.proofs.DeskRuns.{honest_on, loop_goes}
use Rattle.node_sessions.proofs.RoundLemmas.{rounds_more}
use Rattle.node_sessions.proofs.loops.connection_loop.Goals as goal

pub loop-preserved : goal.loop-preserved
loop-preserved g c = rounds_more _ _ _ _ _ _ _ _ _ c.loop.invariant c.wait.ensures.given c.round-is_idle.ensures

pub returns-then-stop-clause-desks : goal.returns-then-stop-clause-desks
returns-then-stop-clause-desks g c =
    loop_goes _ _ c.loop.invariant.0 _ _
    (served g.D.Desks.view g.K.NodeLink.faults g.G.Draw.given c.args.desks c.args.link c.args.draw.now [])
    (served g.D.Desks.view g.K.NodeLink.faults g.G.Draw.given c.loop.desks c.loop.link c.loop.draw c.loop.sessions)
    _ _ c.loop.invariant.1 c.close_all.ensures

pub returns-then-stop-clause-honest : goal.returns-then-stop-clause-honest
returns-then-stop-clause-honest g c = honest_on _ _
    (loop_goes _ _ c.loop.invariant.0 _ _
    (served g.D.Desks.view g.K.NodeLink.faults g.G.Draw.given c.args.desks c.args.link c.args.draw.now [])
    (served g.D.Desks.view g.K.NodeLink.faults g.G.Draw.given c.loop.desks c.loop.link c.loop.draw c.loop.sessions)
    _ _ c.loop.invariant.1 c.close_all.ensures)
