use Rattle.node_sessions.proofs.RoundLemmas.{read_none, read_more}
use Rattle.node_sessions.proofs.mail.read_all.Goals as goal

pub loop-shard-init : goal.loop-shard-init
loop-shard-init g c = read_none _ _ _

pub loop-shard-preserved : goal.loop-shard-preserved
loop-shard-preserved g c = read_more _ _ _ _ _ _ _ _ c.loop-shard.invariant c.read_shard.ensures
