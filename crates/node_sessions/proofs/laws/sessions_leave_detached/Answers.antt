use Rattle.node_sessions.proofs.LawLemmas.{over_detached}
use Rattle.node_sessions.proofs.laws.sessions_leave_detached.Goals as goal

pub returns : goal.returns
returns c = λ place moment i end x y pump. over_detached _ _ _ _ end _ _ _ _ _ pump.made.ends
