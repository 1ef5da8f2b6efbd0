use Rattle.std.proofs.Common.{refl}
use Rattle.node_sweep.proofs.SweepLemmas.{cut_after, whole_after}
use Rattle.node_sweep.proofs.sweeps.sweep.Goals as goal

pub returns-in_default-drop_idle-clause-made : goal.returns-in_default-drop_idle-clause-made
returns-in_default-drop_idle-clause-made g c = cut_after _ c.args.shard c.in-Ok.told _ _ _ c.in-Ok.ensures.ok c.in_default-drop_idle.ensures.err

pub returns-clause-made : goal.returns-clause-made
returns-clause-made g c = whole_after _ c.args.shard c.in-Ok.told c.in-Ok-drop_idle.dropped _ _ _ refl refl c.in-Ok.ensures.ok c.in-Ok-drop_idle.ensures.ok
