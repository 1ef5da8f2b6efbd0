use Rattle.std.proofs.Common.{◌≡◌}
use Rattle.node_sessions.proofs.rounds.hear_news.Given as goal

abbrev pub invariant-loop-count : goal.invariant-loop-count
invariant-loop-count g l = (g.L.Listener.given l.listener ≡ g.L.Listener.given l.fn.listener) × (l.sessions ≡ l.fn.sessions)
