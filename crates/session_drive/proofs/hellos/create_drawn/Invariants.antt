use Rattle.session_drive.proofs.HelloLemmas.{TakenSoFar}
use Rattle.session_drive.proofs.hellos.create_drawn.Given as goal

abbrev pub invariant-loop-tries : goal.invariant-loop-tries
invariant-loop-tries g l = TakenSoFar l.node l.at l.tries (g.D.Desks.view l.initial.desks) (g.D.Desks.view l.desks) (g.G.Draw.given l.initial.draw) (g.G.Draw.given l.draw)
