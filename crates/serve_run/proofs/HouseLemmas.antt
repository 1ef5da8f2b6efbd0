-- Shards that began empty, and what they come to.
use Rattle.std.proofs.Common.{◌<◌, ℕ, List, subst, ap, ◌∙◌}
use Rattle.push_model.specs.Worlds.{World}
use Rattle.push_model.specs.Steps.{step}
use Rattle.push_model.specs.Histories.{IsLegal, world_after}
use Rattle.push_model.specs.Caring.{is_cared}
use Rattle.push_model.specs.DeskViews.{DeskView}
use Rattle.push_exchange.specs.Boards.{IsClosed, IsFresh, IsOver}
use Rattle.node_runner.specs.Openings.{OpensEmpty}
use Rattle.serve_run.specs.Crews.{IsOpenedAlike}
use Rattle.serve_run.specs.Worlds.{AreSound, IsEmpty}

pub fresh_is_empty : (v : DeskView) → IsFresh v → IsEmpty v
fresh_is_empty v f = record { size = f.size; opened = f.opened }

pub empty_along : (v w : DeskView) → IsOpenedAlike v w → IsEmpty v → IsEmpty w
empty_along v w alike e = record { size = alike.size ∙ e.size; opened = λ k low. alike.opened k ∙ e.opened k low }

pub over_along : (bs : List (List ℕ)) (v w : DeskView) → IsOpenedAlike v w → IsOver bs v → IsOver bs w
over_along bs v w alike over = λ k. alike.board k ∙ over k

pub closed_is_sound : (v : DeskView) (ws : List World) → IsEmpty v → IsClosed v ws → AreSound ws
closed_is_sound v ws e c =
    record {
      wide = c.wide;
      each = λ k low.
          let began = e.opened k low in
          record {
            history = v.seen k;
            legal = subst (λ (z : World). IsLegal step z (v.seen k)) began (c.honest.legal k);
            each_proper = c.honest.each_proper k;
            accounted = c.accounted k k 1 began;
            world = c.world k low ∙ ap (λ (z : World). world_after step z (v.seen k)) began;
            cared = ap is_cared (c.world k low) ∙ c.cared k;
          };
    }

pub empty_opens : (v : DeskView) → IsEmpty v → OpensEmpty v
empty_opens v e = λ k low. (k, 1, e.opened k (subst (λ (z : ℕ). k < z) e.size low))
