use Rattle.node_sweep.proofs.SweepLemmas.{tells_after}
use Rattle.node_sweep.proofs.tells.tell_orphans.Goals as goal

pub returns-in-Ok-clause-ok : goal.returns-in-Ok-clause-ok
returns-in-Ok-clause-ok g c = tells_after c.args.shard c.tell_all.result c.in-Ok.users _ _ _ c.in-Ok.ensures.ok c.tell_all.ensures.told
