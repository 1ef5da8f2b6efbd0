use Rattle.node_sweep.proofs.SweepLemmas.{drops_after}
use Rattle.node_sweep.proofs.drops.drop_idle.Goals as goal

pub returns-in-Ok-clause-ok : goal.returns-in-Ok-clause-ok
returns-in-Ok-clause-ok g c = drops_after c.args.shard c.expire_all.result c.in-Ok.users _ _ _ c.in-Ok.ensures.ok c.expire_all.ensures.dropped
