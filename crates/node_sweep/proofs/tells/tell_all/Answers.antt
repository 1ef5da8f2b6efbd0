use Rattle.std.proofs.Common.{arith}
use Rattle.node_sweep.proofs.SweepLemmas.{told_more, told_none}
use Rattle.node_sweep.proofs.tells.tell_all.Goals as goal

pub loop-place-init : goal.loop-place-init
loop-place-init g c = record { cared = c.requires.cared; told = told_none c.args.shard _ }

pub loop-place-preserved : goal.loop-place-preserved
loop-place-preserved g c =
    record {
      cared = c.tell.ensures.cared;
      told = told_more c.args.shard c.args.users.now c.loop-place.place c.at.result c.loop-place.told c.tell.result _ _ _ _ c.at.ensures (omega (arith, c.saturating_add-told.ensures)) c.loop-place.invariant.told c.tell.ensures.told;
    }
