-- What the service promises of every history, part by part.
use Rattle.std.specs.Prelude.{◌≡◌, ◌⊎◌, ℕ, nat_lt, true, List, [], ◌∷◌, Option, Some, None}
use Rattle.std.specs.List.{list_any, AllByRecursion}
use Rattle.push_model.specs.declared.entry.Entry.{Entry}
use Rattle.push_model.specs.declared.step.Step.{Step}
use Rattle.push_model.specs.declared.reply.Reply.{Reply}
use Rattle.push_model.specs.declared.reply.Reply.TheVariants.{Page}
use Rattle.push_model.specs.MessageValue.{MessageValue}
use Rattle.push_model.specs.Worlds.{World}
use Rattle.push_model.specs.Steps.{step}
use Rattle.push_model.specs.Histories.{world_after}
use Rattle.push_model.specs.Pools.{Pool, Taken, Reason, empty_pool, after_all, taken_at, IsAt}
use Rattle.push_model.specs.Images.{image, is_stored_or_held}
use Rattle.push_model.specs.Accounting.{IsAccounted}
use Rattle.push_model.specs.Caring.{is_cared, none_waited}
use Rattle.push_laws.specs.Sound.{IsSound}

-- the pool after the entries
abbrev pub pool_after : Pool → World → List (Entry Step Reply) → Pool
pool_after p w [] = p
pool_after p w (e ∷ es) = pool_after (after_all (image p w e) p) (step w e.step).0 es

-- ---- each message answered 201 with a ttl above 0 is stored, held, or left for a reason

abbrev pub IsWhere : World → ℕ → Taken → Type 0
IsWhere w n t = (list_any (λ e. is_stored_or_held n e.1) w.cells ≡ true) ⊎ ((r : Reason) × (t.left ≡ Some r))

abbrev pub IsPromised : World → ℕ → Taken → Type 0
IsPromised w n t = t.answer ≡ Some 201 → nat_lt 0 t.message.ask.terms.ttl ≡ true → IsWhere w n t

-- of each number; of one that wasn't taken nothing is said
abbrev pub Promised : World → ℕ → Option Taken → Type 0
Promised w n None = Unit {0}
Promised w n (Some t) = IsPromised w n t

-- ---- what is shown is what was accepted

-- the messages that a reply shows
abbrev pub shown_in : Reply → List MessageValue
shown_in (Page ms) = ms
shown_in _ = []

-- it equals, in every field and so in the payload's bytes, the message that was taken under its number
abbrev pub IsAccepted : Pool → MessageValue → Type 0
IsAccepted p m = IsAt (taken_at m.id.number p) (λ t. t.message ≡ m)

abbrev pub AllAccepted : Pool → World → List (Entry Step Reply) → Type 0
AllAccepted p w [] = Unit {0}
AllAccepted p w (e ∷ es) = AllByRecursion (IsAccepted p) (shown_in e.reply) × AllAccepted (after_all (image p w e) p) (step w e.step).0 es

-- ---- the headline of a history from w

-- Every message that is taken is accounted for: each pool step is one that its guard allows, and it leaves only for a
-- reason that the history shows. Each message answered 201 with a ttl above 0 is stored, held, or left so. What is shown
-- is what was accepted. Each stored row that a routed session wasn't sent is covered: a check, a nudge, a save or a
-- routing is under way, or it bears an orphan mark; so each report counts none that waits. And the world is sound.
pub record Headline (w : World) (es : List (Entry Step Reply)) : Type 0 where
  pub accounted : IsAccounted w es
  pub answered : (n : ℕ) → Promised (world_after step w es) n (taken_at n (pool_after empty_pool w es))
  pub shown : AllAccepted empty_pool w es
  pub covered : is_cared (world_after step w es) ≡ true
  pub reports : none_waited es ≡ true
  pub sound : IsSound (world_after step w es)
