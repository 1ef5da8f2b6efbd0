-- Which worlds there are: those after a legal history from a start.
use Rattle.std.specs.Prelude.{◌≡◌, ℕ, List}
use Rattle.push_model.specs.declared.entry.Entry.{Entry}
use Rattle.push_model.specs.declared.step.Step.{Step}
use Rattle.push_model.specs.declared.reply.Reply.{Reply}
use Rattle.push_model.specs.Worlds.{World, start}
use Rattle.push_model.specs.Steps.{step}
use Rattle.push_model.specs.Histories.{IsLegal, world_after}

-- a legal history from a shard without users leads to it
pub record IsReached (w : World) : Type 0 where
  pub shard : ℕ
  pub next : ℕ
  pub entries : List (Entry Step Reply)
  pub legal : IsLegal step (start shard next) entries
  pub is : world_after step (start shard next) entries ≡ w
