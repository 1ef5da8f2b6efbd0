-- The shards of a service, from their start to its end.
use Rattle.std.specs.Prelude.{◌≡◌, ℕ, ◌<◌, true, List, length}
use Rattle.push_model.specs.declared.entry.Entry.{Entry}
use Rattle.push_model.specs.declared.step.Step.{Step}
use Rattle.push_model.specs.declared.reply.Reply.{Reply}
use Rattle.push_model.specs.Worlds.{World, start}
use Rattle.push_model.specs.Steps.{proper, step}
use Rattle.push_model.specs.Histories.{AllProper, IsLegal, world_after}
use Rattle.push_model.specs.Accounting.{IsAccounted}
use Rattle.push_model.specs.Caring.{is_cared}
use Rattle.push_model.specs.DeskViews.{DeskView}
use Rattle.push_exchange.specs.Boards.{world_in}

-- sixteen shards, each of which began with no user, and with the number 1 for its first message
pub record IsEmpty (v : DeskView) : Type 0 where
  pub size : v.size ≡ 16
  pub opened : (k : ℕ) → k < 16 → v.opened k ≡ start k 1

-- The world is that after a legal history from the empty shard of that number, of proper entries. Each message of it is accounted for,
-- and each stored row that a routed session wasn't sent is covered.
pub record IsSound (k : ℕ) (w : World) : Type 0 where
  pub history : List (Entry Step Reply)
  pub legal : IsLegal step (start k 1) history
  pub each_proper : AllProper proper history
  pub accounted : IsAccounted (start k 1) history
  pub world : w ≡ world_after step (start k 1) history
  pub cared : is_cared w ≡ true

pub record AreSound (ws : List World) : Type 0 where
  pub wide : length ws ≡ 16
  pub each : (k : ℕ) → k < 16 → IsSound k (world_in ws k)
