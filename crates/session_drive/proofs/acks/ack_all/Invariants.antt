use Rattle.session_drive.specs.Begins.{Leads}
use Rattle.session_drive.specs.Answers.{acking, acks_of}
use Rattle.session_drive.proofs.AnswerLemmas.{from}
use Rattle.session_drive.proofs.acks.ack_all.Given as goal

abbrev pub invariant-loop-place : goal.invariant-loop-place
invariant-loop-place g l = Leads (acking l.shard l.s (acks_of l.shard l.updates)) (from l.shard l.s l.updates l.place) (g.D.Desks.view l.initial.desks) (g.D.Desks.view l.desks)
