use Rattle.std.proofs.Common.{sym, subst}
use Rattle.push_model.specs.Reached.{IsReached}
use Rattle.push_model.proofs.Reached.{reached_start}
use Rattle.shard_core.proofs.shard.Shard.start_at.Goals as goal

pub invariant_of-result : goal.invariant_of-result
invariant_of-result c = subst IsReached (sym c.start.ensures) (reached_start c.args.number c.args.next)
