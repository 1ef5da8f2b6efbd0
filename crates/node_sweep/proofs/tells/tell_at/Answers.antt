use Rattle.std.proofs.Common.{◌∙◌}
use Rattle.node_sweep.proofs.SweepLemmas.{told_here}
use Rattle.node_sweep.proofs.tells.tell_at.Goals as goal

pub returns-then-node_notif-clause-told : goal.returns-then-node_notif-clause-told
returns-then-node_notif-clause-told g c = λ at.
    let s = c.node_notif.ensures.step in
    told_here c.args.shard c.args.node c.args.uaid at s.0 _ _ _ (s.1 ∙ c.if-node_notif.true) s.2.calls c.node_notif.ensures.mail c.post.ensures.calls c.post.ensures.mail
