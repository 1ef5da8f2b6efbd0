use Rattle.std.proofs.Common.{◌≡◌, true, take}
use Rattle.push_model.specs.Caring.{is_cared}
use Rattle.push_model.specs.DeskViews.{world_at}
use Rattle.node_sweep.proofs.SweepLemmas.{Dropped}
use Rattle.node_sweep.proofs.drops.expire_all.Given as goal

abbrev pub invariant-loop-place : goal.invariant-loop-place
invariant-loop-place g l =
    record {
      cared : is_cared (world_at (g.D.Desks.view l.desks) l.shard) ≡ true;
      dropped : Dropped l.shard (take l.place l.users) l.dropped (g.D.Desks.view l.initial.desks) (g.D.Desks.view l.desks);
    }
