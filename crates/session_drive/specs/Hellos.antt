-- How a session begins.
use Rattle.std.specs.Prelude.{◌≡◌, ◌≤◌, ◌==◌, ◌+◌, ◌/◌, ℕ, List, [], ◌∷◌, ◌++◌, length, map, Result, Ok, Err, Option, Some, None, if◌then◌else◌}
use Rattle.std.specs.List.{concat}
use Rattle.std.specs.Int.{w128, from_be_bytes}
use Rattle.push_model.specs.SessionKey.{SessionKey}
use Rattle.push_model.specs.DeskViews.{DeskView}
use Rattle.push_model.specs.declared.ids.Uaid.{Uaid}
use Rattle.push_model.specs.declared.step.Step.{Step}
use Rattle.push_model.specs.declared.step.Step.TheVariants.{Tick, Create, Claim, Attach}
use Rattle.push_model.specs.declared.reply.Reply.{Reply}
use Rattle.push_model.specs.declared.reply.Reply.TheVariants.{Made as IsMade, Taken, NoUser, Stale as IsStale, Claimed, NodeDown, NotClaimed, Outrun as IsOutrun, Attached}
use Rattle.push_outside.specs.Draws.{GivesMore}
use Rattle.session_drive.specs.Shards.{shard_of}
use Rattle.session_drive.specs.Runs.{Next, Asks, Over, Never, Steps}
use Rattle.session_drive.specs.declared.ends.SessionEnd.{SessionEnd}
use Rattle.session_drive.specs.declared.ends.SessionEnd.TheVariants.{Stale, Outrun, Down, UaidSpent}

-- ---- users that are drawn

abbrev pub uaid_of : List ℕ → Uaid
uaid_of bytes = record { 0 = from_be_bytes w128 bytes }

abbrev pub AreLong : List (List ℕ) → Type 0
AreLong [] = Unit {0}
AreLong (b ∷ bs) = (length b ≡ 16) × AreLong bs

-- these were drawn, each sixteen bytes, one behind the other
pub record Draws (before after : Option (List ℕ)) (drawn : List (List ℕ)) : Type 0 where
  pub long : AreLong drawn
  pub given : GivesMore before after (concat drawn)

-- ---- what comes after which replies, in a hello at that moment in milliseconds

abbrev pub session_of : Uaid → ℕ → ℕ → SessionKey
session_of u node at = record { uaid = u; node = node; at = at }

-- the clock of a shard is in seconds
abbrev pub tick_to : ℕ → Step
tick_to at = Tick (at / 1000)

-- the reply to Attach
abbrev pub attach_next : SessionKey → Reply → Next SessionKey
attach_next s (Attached displaced) = Over (Ok s)
attach_next s (IsOutrun at) = Over (Err (Outrun at))
attach_next s NodeDown = Over (Err Down)
attach_next s NotClaimed = Over (Err Down)
attach_next s r = Never

abbrev pub attaching : ℕ → SessionKey → List Reply → Next SessionKey
attaching k s [] = Asks k (Attach s)
attaching k s (r ∷ rs) = attach_next s r

-- no user was drawn for nothing
abbrev pub unless_more : List Uaid → Next SessionKey → Next SessionKey
unless_more [] next = next
unless_more (u ∷ us) next = Never

-- Tick and Create for each user that was drawn, until one isn't there already; n were there, and four are enough
abbrev pub creating : ℕ → ℕ → ℕ → ℕ → List Uaid → List Reply → Next SessionKey
creating size node at n [] rs = if n == 4 then Over (Err UaidSpent) else Never
creating size node at n (u ∷ us) [] = Asks (shard_of u size) (tick_to at)
creating size node at n (u ∷ us) (t ∷ []) = Asks (shard_of u size) (Create (session_of u node at))
creating size node at n (u ∷ us) (t ∷ IsMade ∷ rs) = unless_more us (attaching (shard_of u size) (session_of u node at) rs)
creating size node at n (u ∷ us) (t ∷ Taken ∷ rs) = creating size node at (n + 1) us rs
creating size node at n (u ∷ us) (t ∷ r ∷ rs) = Never

-- Tick and Claim for a user that is given; where there is no such user, one is drawn
abbrev pub claiming : ℕ → ℕ → ℕ → Uaid → List Uaid → List Reply → Next SessionKey
claiming size node at u us [] = Asks (shard_of u size) (tick_to at)
claiming size node at u us (t ∷ []) = Asks (shard_of u size) (Claim (session_of u node at))
claiming size node at u us (t ∷ Claimed previous ∷ rs) = unless_more us (attaching (shard_of u size) (session_of u node at) rs)
claiming size node at u us (t ∷ IsStale kept ∷ rs) = Over (Err (Stale kept))
claiming size node at u us (t ∷ NoUser ∷ rs) = creating size node at 0 us rs
claiming size node at u us (t ∷ r ∷ rs) = Never

abbrev pub hello_next : ℕ → ℕ → ℕ → Option Uaid → List Uaid → List Reply → Next SessionKey
hello_next size node at None us rs = creating size node at 0 us rs
hello_next size node at (Some u) us rs = claiming size node at u us rs

-- the whole of it: which users were drawn, and which steps were made
pub record HelloMade (result : Result SessionKey SessionEnd) (node at : ℕ) (given : Option Uaid) (a b : DeskView) (before after : Option (List ℕ)) : Type 0 where
  pub drawn : List (List ℕ)
  pub draws : Draws before after drawn
  pub few : length drawn ≤ 4
  pub steps : Steps (hello_next a.size node at given (map uaid_of drawn)) result a b
