use Rattle.std.proofs.Common.{arith}
use Rattle.node_sweep.proofs.SweepLemmas.{dropped_more, dropped_none}
use Rattle.node_sweep.proofs.drops.expire_all.Goals as goal

pub loop-place-init : goal.loop-place-init
loop-place-init g c = record { cared = c.requires.cared; dropped = dropped_none c.args.shard _ }

pub loop-place-preserved : goal.loop-place-preserved
loop-place-preserved g c =
    let u = c.at-user.result in
    record {
      cared = c.expire.ensures.cared;
      dropped = dropped_more c.args.shard c.args.users.now c.loop-place.place u c.loop-place.dropped c.expire.result _ _ _ _ c.at-user.ensures (omega (arith, c.saturating_add-dropped.ensures)) c.loop-place.invariant.dropped (c.expire.ensures.dropped u.1 u.2);
    }
