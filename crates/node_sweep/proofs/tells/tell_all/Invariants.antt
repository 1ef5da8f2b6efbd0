use Rattle.std.proofs.Common.{◌≡◌, true, take}
use Rattle.push_model.specs.Caring.{is_cared}
use Rattle.push_model.specs.DeskViews.{world_at}
use Rattle.node_sweep.proofs.SweepLemmas.{Told}
use Rattle.node_sweep.proofs.tells.tell_all.Given as goal

abbrev pub invariant-loop-place : goal.invariant-loop-place
invariant-loop-place g l =
    record {
      cared : is_cared (world_at (g.D.Desks.view l.desks) l.shard) ≡ true;
      told : Told l.shard (take l.place l.users) l.told (g.D.Desks.view l.initial.desks) (g.D.Desks.view l.desks);
    }
