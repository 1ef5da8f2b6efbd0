use Rattle.session_drive.specs.Runs.{sides}
use Rattle.session_drive.proofs.RegisterLemmas.{TokensSoFar}
use Rattle.session_drive.proofs.registers.register.Given as goal

abbrev pub invariant-loop-tries : goal.invariant-loop-tries
invariant-loop-tries g l = TokensSoFar l.shard l.s l.chid l.port l.tries
    (sides g.D.Desks.view g.H.Chat.left g.H.Chat.taken g.H.Chat.sent g.H.Chat.code g.H.Chat.faults l.initial.desks l.initial.chat)
    (sides g.D.Desks.view g.H.Chat.left g.H.Chat.taken g.H.Chat.sent g.H.Chat.code g.H.Chat.faults l.desks l.chat)
    (g.G.Draw.given l.initial.draw) (g.G.Draw.given l.draw)
