use Rattle.session_drive.proofs.SaveLemmas.{SavedSoFar}
use Rattle.session_drive.proofs.saves.save_all.Given as goal

abbrev pub invariant-loop-place : goal.invariant-loop-place
invariant-loop-place g l = SavedSoFar l.shard l.s l.held l.place l.saved (g.D.Desks.view l.initial.desks) (g.D.Desks.view l.desks)
