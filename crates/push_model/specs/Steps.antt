-- The steps of a shard: whose each one is, and what it does.
use Rattle.std.specs.Prelude.{◌≡◌, ℕ, ◌==◌, Bool, true, false, Option, Some, None}
use Rattle.push_model.specs.declared.ids.Uaid.{Uaid}
use Rattle.push_model.specs.declared.ids.Op.{Op}
use Rattle.push_model.specs.declared.step.Actor.TheVariants.{Flight as OfFlight, Saver as OfSaver}
use Rattle.push_model.specs.declared.step.Step.{Step}
use Rattle.push_model.specs.declared.step.Step.TheVariants.{Create, Attach, Register, Begin, Direct, Store, GiveUp, Reread, Nudge, Heard, Lost, TakeCheck, FetchTopic, FetchPlain, TakeDirect, Ack, Tick, Claim, Unregister, Renew, Close, Release, SaveOne, Clear, Notif, Kill, Up, Expire, DropUser, ListOrphans, ListIdle, Report}
use Rattle.push_model.specs.declared.reply.Reply.{Reply}
use Rattle.push_model.specs.Cells.{Cell}
use Rattle.push_model.specs.Outcomes.{Outcome}
use Rattle.push_model.specs.UserSteps.{create, claim, expire, drop_user}
use Rattle.push_model.specs.SessionSteps.{attach, register, unregister, take_direct, ack, renew}
use Rattle.push_model.specs.FetchSteps.{take_check, fetch_topic, fetch_plain}
use Rattle.push_model.specs.FlightSteps.{direct, store, give_up, reread, nudge, heard, lost, clear}
use Rattle.push_model.specs.SaverSteps.{close, release, save, saver_reread, saver_nudge, saver_heard, saver_lost, saver_clear}
use Rattle.push_model.specs.NodeSteps.{notif}
use Rattle.push_model.specs.Kinds.{begins_unkept, costs_memory}
use Rattle.push_model.specs.Tallies.{tallied}
use Rattle.push_model.specs.Worlds.{World, on_cell, on_flight}
use Rattle.push_model.specs.ShardSteps.{refusal, begin_message, report, tick, kill, up, list_orphans, list_idle}

-- A step is a user's, and does this to the user's cell; or a flight's, and does it to the cell that has the flight; or
-- the shard's.
pub data Action : Type 0 where
  OnUser : (u : Uaid) → (f : Cell → Outcome) → Action
  OnFlight : (o : Op) → (f : Cell → Outcome) → Action
  OnShard : (f : World → World × Reply) → Action

-- at that moment
abbrev pub action : ℕ → Step → Action
action moment (Create s) = OnUser s.uaid (create moment s)
action moment (Attach s) = OnUser s.uaid (attach s)
action moment (Register s h t) = OnUser s.uaid (register s h t)
action moment (Begin o t a) = OnShard (begin_message o t a)
action moment (Direct o) = OnFlight o (direct moment o)
action moment (Store o) = OnFlight o (store moment o)
action moment (GiveUp o) = OnFlight o (give_up o)
action moment (Reread (OfFlight o)) = OnFlight o (reread o)
action moment (Reread (OfSaver s)) = OnUser s.uaid (saver_reread s)
action moment (Nudge (OfFlight o)) = OnFlight o (nudge o)
action moment (Nudge (OfSaver s)) = OnUser s.uaid (saver_nudge s)
action moment (Heard (OfFlight o)) = OnFlight o (heard o)
action moment (Heard (OfSaver s)) = OnUser s.uaid (saver_heard s)
action moment (Lost (OfFlight o)) = OnFlight o (lost o)
action moment (Lost (OfSaver s)) = OnUser s.uaid (saver_lost s)
action moment (TakeCheck s) = OnUser s.uaid (take_check s)
action moment (FetchTopic s) = OnUser s.uaid (fetch_topic s)
action moment (FetchPlain s) = OnUser s.uaid (fetch_plain s)
action moment (TakeDirect s) = OnUser s.uaid (take_direct moment s)
action moment (Ack s h i) = OnUser s.uaid (ack s h i)
action moment (Tick t) = OnShard (tick t)
action moment (Claim s) = OnUser s.uaid (claim moment s)
action moment (Unregister s h) = OnUser s.uaid (unregister s h)
action moment (Renew s) = OnUser s.uaid (renew moment s)
action moment (Close s) = OnUser s.uaid (close moment s)
action moment (Release s) = OnUser s.uaid (release s)
action moment (SaveOne s) = OnUser s.uaid (save moment s)
action moment (Clear (OfFlight o)) = OnFlight o (clear o)
action moment (Clear (OfSaver s)) = OnUser s.uaid (saver_clear s)
action moment (Notif n u) = OnUser u (notif n)
action moment (Kill n) = OnShard (kill n)
action moment (Up n) = OnShard (up n)
action moment (Expire u) = OnUser u (expire moment)
action moment (DropUser u) = OnUser u drop_user
action moment ListOrphans = OnShard list_orphans
action moment ListIdle = OnShard list_idle
action moment Report = OnShard report

-- ---- the step of the shard

abbrev pub act : Action → World → World × Reply
act (OnUser u f) w = on_cell w u f
act (OnFlight o f) w = on_flight w o f
act (OnShard f) w = f w

abbrev pub act_unless : Option Reply → Action → World → World × Reply
act_unless (Some r) a w = (w, r)
act_unless None a w = act a w

-- the step, before it is counted
abbrev pub made : World → Step → World × Reply
made w x = act_unless (refusal w x) (action w.clock x) w

-- ---- whose it is

abbrev pub is_on_flight : Action → Bool
is_on_flight (OnFlight o f) = true
is_on_flight (OnUser u f) = false
is_on_flight (OnShard f) = false

-- a step of a flight that has begun
abbrev pub is_of_flight : Step → Bool
is_of_flight x = is_on_flight (action 0 x)

abbrev pub is_made_by : ℕ → Action → Bool
is_made_by by (OnFlight o f) = o.pass == by
is_made_by by (OnUser u f) = true
is_made_by by (OnShard f) = true

-- a flight's steps are made by the pass that began it; its Direct and its Nudge may be made by any
abbrev pub proper : ℕ → Step → Bool
proper by (Begin o t a) = o.pass == by
proper by (Direct o) = true
proper by (Nudge actor) = true
proper by x = is_made_by by (action 0 x)

-- ---- counted

abbrev pub with_tally : Step → World × Reply → World × Reply
with_tally x m = (record m.0 { tally = tallied (is_of_flight x) (begins_unkept x) m.1 m.0.tally }, m.1)

abbrev pub step : World → Step → World × Reply
step w x = with_tally x (made w x)

-- ---- a step on one user, as the user's cell alone makes it

abbrev pub IsOnCell : Action → Type 0
IsOnCell (OnUser u f) = Unit {0}
IsOnCell (OnFlight o f) = Unit {0}
IsOnCell (OnShard f) = ⊥

-- it does that
abbrev pub Does : Action → Cell → Outcome → Type 0
Does (OnUser u f) c out = f c ≡ out
Does (OnFlight o f) c out = f c ≡ out
Does (OnShard f) c out = ⊥

-- its reply costs memory
abbrev pub Costs : Action → Cell → Type 0
Costs (OnUser u f) c = costs_memory (f c).reply ≡ true
Costs (OnFlight o f) c = costs_memory (f c).reply ≡ true
Costs (OnShard f) c = ⊥
