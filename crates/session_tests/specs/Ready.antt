-- Desks at which a message can be routed.
use Rattle.std.specs.Prelude.{◌≡◌, ◌<◌, None}
use Rattle.push_model.specs.declared.ids.Op.{Op}
use Rattle.push_model.specs.Frames.{NoBegin, flight_at}
use Rattle.push_model.specs.DeskViews.{DeskView, IsHonest, own_entries}

-- they are honest, and no flight was begun on shard 0
pub record IsReady (v : DeskView) : Type 0 where
  pub within : 0 < v.size
  pub honest : IsHonest v
  pub opened : (o : Op) → flight_at o (v.opened 0) ≡ None
  pub own : (o : Op) → NoBegin o (own_entries v 0)
