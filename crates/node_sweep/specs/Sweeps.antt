-- A sweep of one shard.
use Rattle.std.specs.Prelude.{◌≡◌, ◌⊎◌, ◌-◌, ◌^◌, ℕ, Bool, true, false, min, List, [], ◌∷◌, ◌++◌, map, count_by, Option, Some, None, Result, Ok, Err}
use Rattle.push_model.specs.declared.entry.NoMemory.{NoMemory}
use Rattle.push_model.specs.declared.ids.Uaid.{Uaid}
use Rattle.push_model.specs.declared.step.Step.{Step}
use Rattle.push_model.specs.declared.step.Step.TheVariants.{Expire, ListIdle, ListOrphans, Notif}
use Rattle.push_model.specs.declared.reply.Reply.{Reply}
use Rattle.push_model.specs.declared.reply.Reply.TheVariants.{Dropped, Users}
use Rattle.push_model.specs.DeskViews.{DeskView, Made, made}
use Rattle.node_routes.specs.Routes.{is_here}
use Rattle.node_sweep.specs.Entries.{AreMade, Does}
use Rattle.node_sweep.specs.declared.sweeps.Swept.{Swept}

-- a user that a shard names, with the node and the moment of its route row
abbrev pub Named : Type 0
Named = Uaid × Option ℕ × ℕ

-- a number that stops at the last value of its type
abbrev pub counted : ℕ → ℕ
counted n = min n (2 ^ 32 - 1)

-- ---- orphans

-- a Notif for each user that has a node, in order
abbrev pub notifs : List Named → List Step
notifs [] = []
notifs ((u, Some n, a) ∷ us) = Notif n u ∷ notifs us
notifs ((u, None, a) ∷ us) = notifs us

-- these told the users' sessions, and that many were found
pub record AreTold (k : ℕ) (users : List Named) (told : ℕ) (notes : List Made) : Type 0 where
  pub each : AreMade k (notifs users) notes
  pub count : told ≡ counted (count_by (λ m. is_here m.reply) notes)

-- ListOrphans, and then a Notif for each user that it named
pub record Tells (k told : ℕ) (entries : List Made) : Type 0 where
  pub orphans : List Named
  pub notes : List Made
  pub is : entries ≡ made k ListOrphans (Users orphans) ∷ notes
  pub tells : AreTold k orphans told notes

-- ---- idle users

abbrev pub expires : List Named → List Step
expires us = map (λ u. Expire u.0) us

abbrev pub is_dropped : Reply → Bool
is_dropped Dropped = true
is_dropped r = false

-- these were to drop the users, and that many were dropped
pub record AreDropped (k : ℕ) (users : List Named) (dropped : ℕ) (drops : List Made) : Type 0 where
  pub each : AreMade k (expires users) drops
  pub count : dropped ≡ counted (count_by (λ m. is_dropped m.reply) drops)

-- ListIdle, and then an Expire for each user that it named
pub record Drops (k dropped : ℕ) (entries : List Made) : Type 0 where
  pub idle : List Named
  pub drops : List Made
  pub is : entries ≡ made k ListIdle (Users idle) ∷ drops
  pub dropping : AreDropped k idle dropped drops

-- ---- the whole of it

-- of the shard k
pub record IsSweep (k told dropped : ℕ) (entries : List Made) : Type 0 where
  pub first : List Made
  pub rest : List Made
  pub is : entries ≡ first ++ rest
  pub tells : Tells k told first
  pub drops : Drops k dropped rest

-- one of whose two lists wasn't there, for want of memory: nothing was made, or all before ListIdle
abbrev pub IsCutSweep : ℕ → List Made → Type 0
IsCutSweep k entries = (entries ≡ []) ⊎ ((told : ℕ) × Tells k told entries)

abbrev pub IsSweepBy : Result Swept NoMemory → ℕ → List Made → Type 0
IsSweepBy (Ok s) k entries = IsSweep k s.told s.dropped entries
IsSweepBy (Err wanted) k entries = IsCutSweep k entries

pub record SweepMade (result : Result Swept NoMemory) (k : ℕ) (a b : DeskView) : Type 0 where
  pub entries : List Made
  pub does : Does a b entries
  pub sweeps : IsSweepBy result k entries
