-- What was seen of a shard by the end of an exchange.
use Rattle.std.specs.Prelude.{◌≡◌, ◌⊎◌, ℕ, Bool, true, List, [], ◌∷◌, ◌++◌}
use Rattle.push_model.specs.declared.entry.Entry.{Entry}
use Rattle.push_model.specs.declared.reply.Reply.{Reply}
use Rattle.push_model.specs.declared.step.Step.{Step}
use Rattle.push_model.specs.Accounting.{IsAccounted}
use Rattle.push_model.specs.Caring.{is_cared}
use Rattle.push_model.specs.DeskViews.{DeskView, Made, entries_at, entry_by, own_among}
use Rattle.push_model.specs.Histories.{IsLegal, world_after}
use Rattle.push_model.specs.Steps.{step}
use Rattle.push_model.specs.Worlds.{start}

-- none is there, or the last is an own one
abbrev pub EndsOwn : (ℕ → Bool) → List (Entry Step Reply) → Type 0
EndsOwn is_own es =
    (es ≡ []) ⊎ ((front : List (Entry Step Reply)) × (last : Entry Step Reply) × (es ≡ front ++ last ∷ []) × (is_own last.by ≡ true))

-- The own entries that came were ms and then ns. Of what came on the shard k this is the part that ends with the last own entry of
-- ms: what was seen by then is a legal history, which is accounted for where the shard began empty, and in the world that it leaves
-- each stored row that a routed session wasn't sent is covered.
pub record Cut (a b : DeskView) (ms ns : List Made) (k : ℕ) : Type 0 where
  pub came : List (Entry Step Reply)
  pub later : List (Entry Step Reply)
  pub parts : b.seen k ≡ (a.seen k ++ came) ++ later
  pub own : own_among entry_by (a.is_own k) came ≡ entries_at a.number k ms
  pub own_later : own_among entry_by (a.is_own k) later ≡ entries_at a.number k ns
  pub last : EndsOwn (a.is_own k) came
  pub legal : IsLegal step (a.opened k) (a.seen k ++ came)
  pub accounted : (number next : ℕ) → a.opened k ≡ start number next → IsAccounted (start number next) (a.seen k ++ came)
  pub cared : is_cared (world_after step (a.opened k) (a.seen k ++ came)) ≡ true
