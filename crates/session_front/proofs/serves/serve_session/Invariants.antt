use Rattle.session_drive.specs.Runs.{sides}
use Rattle.session_front.specs.Served.{pause}
use Rattle.session_front.proofs.ServeLemmas.{PumpedSoFar}
use Rattle.session_front.proofs.serves.serve_session.Given as goal

abbrev pub invariant-loop-count : goal.invariant-loop-count
invariant-loop-count g l = PumpedSoFar l.place (g.C.Clock.moment l.clock) l.count
    (pause l.initial.live (sides g.D.Desks.view g.H.Chat.left g.H.Chat.taken g.H.Chat.sent g.H.Chat.code g.H.Chat.faults l.initial.desks l.initial.chat) (g.G.Draw.given l.initial.draw) (g.L.NodeLink.faults l.initial.link))
    (pause l.live (sides g.D.Desks.view g.H.Chat.left g.H.Chat.taken g.H.Chat.sent g.H.Chat.code g.H.Chat.faults l.desks l.chat) (g.G.Draw.given l.draw) (g.L.NodeLink.faults l.link))
