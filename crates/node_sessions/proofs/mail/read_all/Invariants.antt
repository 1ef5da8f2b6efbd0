use Rattle.node_sessions.proofs.RoundLemmas.{ReadSo}
use Rattle.node_sessions.proofs.mail.read_all.Given as goal

abbrev pub invariant-loop-shard : goal.invariant-loop-shard
invariant-loop-shard g l = ReadSo l.node l.shard (g.D.Desks.view l.fn.desks) (g.D.Desks.view l.desks) l.fn.sessions l.sessions
