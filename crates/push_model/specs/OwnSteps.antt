-- What the steps of a flight, made by its own pass, find and leave.
use Rattle.std.specs.Prelude.{◌≡◌, ◌==◌, Bool, true, false, Option, Some, None}
use Rattle.push_model.specs.declared.ids.Op.{Op}
use Rattle.push_model.specs.declared.ids.Token.{Token}
use Rattle.push_model.specs.declared.ids.MsgId.{MsgId}
use Rattle.push_model.specs.declared.parts.FlightRow.{FlightRow}
use Rattle.push_model.specs.declared.step.Actor.TheVariants.{Flight as OfFlight}
use Rattle.push_model.specs.declared.step.Stage.{Stage}
use Rattle.push_model.specs.declared.step.Stage.TheVariants.{Direct as AtDirect, Told, Store as AtStore, Reread as AtReread, Nudge as AtNudge, ToldNudge as AtToldNudge, Clear as AtClear}
use Rattle.push_model.specs.declared.step.Step.{Step}
use Rattle.push_model.specs.declared.step.Step.TheVariants.{Direct, Store, GiveUp, Reread, Nudge, Heard, Lost, Clear}
use Rattle.push_model.specs.declared.reply.Reply.{Reply}
use Rattle.push_model.specs.declared.reply.Reply.TheVariants.{Begun, Here, NotHere, Stored, Names, Moved}
use Rattle.push_model.specs.AskValue.{AskValue}
use Rattle.push_model.specs.MessageValue.{MessageValue}

-- the stages at which each step of that flight is made
abbrev pub is_told_of : Stage → Bool
is_told_of (Told here) = true
is_told_of (AtToldNudge here n a) = true
is_told_of _ = false

abbrev pub may_lose : Stage → Bool
may_lose (AtDirect n a) = true
may_lose (Told here) = true
may_lose (AtNudge n a) = true
may_lose (AtToldNudge here n a) = true
may_lose _ = false

abbrev pub may_give_up : Stage → Bool
may_give_up (AtDirect n a) = true
may_give_up (Told here) = true
may_give_up AtStore = true
may_give_up _ = false

abbrev pub is_direct : Stage → Bool
is_direct (AtDirect n a) = true
is_direct _ = false

abbrev pub is_store : Stage → Bool
is_store AtStore = true
is_store _ = false

abbrev pub is_reread : Stage → Bool
is_reread AtReread = true
is_reread _ = false

abbrev pub is_nudge : Stage → Bool
is_nudge (AtNudge n a) = true
is_nudge _ = false

abbrev pub is_clear : Stage → Bool
is_clear (AtClear n a) = true
is_clear _ = false

-- the step is one of that flight, which is at a stage at which it is made
abbrev pub IsDue : Op → Step → Stage → Type 0
IsDue o (Direct k) s = (k ≡ o) × (is_direct s ≡ true)
IsDue o (Store k) s = (k ≡ o) × (is_store s ≡ true)
IsDue o (GiveUp k) s = (k ≡ o) × (may_give_up s ≡ true)
IsDue o (Reread (OfFlight k)) s = (k ≡ o) × (is_reread s ≡ true)
IsDue o (Nudge (OfFlight k)) s = (k ≡ o) × (is_nudge s ≡ true)
IsDue o (Heard (OfFlight k)) s = (k ≡ o) × (is_told_of s ≡ true)
IsDue o (Lost (OfFlight k)) s = (k ≡ o) × (may_lose s ≡ true)
IsDue o (Clear (OfFlight k)) s = (k ≡ o) × (is_clear s ≡ true)
IsDue o _ s = ⊥

-- a Direct or a Nudge of that flight, which has been told already, or is at no such stage
abbrev pub IsToldAgain : Op → Step → Stage → Type 0
IsToldAgain o (Direct k) s = (k ≡ o) × (is_direct s ≡ false)
IsToldAgain o (Nudge (OfFlight k)) s = (k ≡ o) × (is_nudge s ≡ false)
IsToldAgain o _ s = ⊥

-- the stage after a reply, if the flight goes on
abbrev pub told_stage : Bool → Stage → Option Stage
told_stage here (AtDirect n a) = Some (Told here)
told_stage here (AtNudge n a) = Some (AtToldNudge here n a)
told_stage here _ = None

abbrev pub stage_after : Reply → Stage → Option Stage
stage_after (Here u) s = told_stage true s
stage_after NotHere s = told_stage false s
stage_after Stored s = Some AtReread
stage_after (Names n a) s = Some (AtNudge n a)
stage_after (Moved t) s = Some t
stage_after _ s = None

-- the flight of a message that is new: with that id, that token and what was asked
pub record IsNew (o : Op) (t : Token) (a : AskValue) (i : MsgId) (s : Stage) (g : Option FlightRow) : Type 0 where
  pub message : MessageValue
  pub id : message.id ≡ i
  pub ask : message.ask ≡ a
  pub is : g ≡ Some (record { op = o; message = message; token = t; stage = s })

-- where the user isn't routed: a message with ttl 0 has no flight, another is to be stored
abbrev pub IsUnrouted : Bool → Op → Token → AskValue → MsgId → Option FlightRow → Type 0
IsUnrouted true o t a i g = g ≡ None
IsUnrouted false o t a i g = IsNew o t a i AtStore g

-- after a reply to Begin: the flight goes to the routed session, else into the table, or, with ttl 0, there is none
abbrev pub IsBegun : Op → Token → AskValue → Reply → Option FlightRow → Type 0
IsBegun o t a (Begun i (Some p)) g = IsNew o t a i (AtDirect p.0 p.1) g
IsBegun o t a (Begun i None) g = IsUnrouted (a.terms.ttl == 0) o t a i g
IsBegun o t a _ g = Unit {0}
