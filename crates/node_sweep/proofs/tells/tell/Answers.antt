use Rattle.std.proofs.Common.{Some, None}
use Rattle.node_sweep.proofs.SweepLemmas.{passed_over, told_by}
use Rattle.node_sweep.proofs.tells.tell.Goals as goal

pub returns-in-Some-clause-told : goal.returns-in-Some-clause-told
returns-in-Some-clause-told g c = told_by c.args.shard c.args.user (Some c.in-Some.node) _ _ _ c.in-Some.is (c.tell_at.ensures.told c.args.user.2)

pub returns-in-None-clause-told : goal.returns-in-None-clause-told
returns-in-None-clause-told g c = told_by c.args.shard c.args.user None 0 _ _ c.in-None.is (passed_over c.args.shard c.args.user.0 c.args.user.2 _)
