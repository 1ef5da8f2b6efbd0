-- Which entries the route of a message makes, one after the other, and what it answers.
use Rattle.std.specs.Prelude.{◌≡◌, ◌⊎◌, ℕ, ◌==◌, ◌||◌, Bool, true, false, List, [], ◌∷◌, Some, None, Result, Ok, IsErr}
use Rattle.push_model.specs.declared.ids.Op.{Op}
use Rattle.push_model.specs.declared.ids.Token.{Token}
use Rattle.push_model.specs.declared.ids.MsgId.{MsgId}
use Rattle.push_model.specs.declared.entry.NoMemory.{NoMemory}
use Rattle.push_model.specs.declared.step.Actor.TheVariants.{Flight as OfFlight}
use Rattle.push_model.specs.declared.step.Stage.TheVariants.{Told as IsTold, Store as IsStore, ToldNudge as IsToldNudge, Clear as IsClear}
use Rattle.push_model.specs.declared.step.Step.{Step}
use Rattle.push_model.specs.declared.step.Step.TheVariants.{Tick, Begin, Direct, Store, GiveUp, Reread, Nudge, Heard, Lost, Clear}
use Rattle.push_model.specs.declared.reply.Reply.{Reply}
use Rattle.push_model.specs.declared.reply.Reply.TheVariants.{Done, NoToken, IdsSpent, Begun, Here, NotHere, Stage as StageIs, Stored, Names, End, Moved}
use Rattle.push_model.specs.AskValue.{AskValue}
use Rattle.push_model.specs.Replies.{is_store_reply}
use Rattle.push_model.specs.DeskViews.{Made}
use Rattle.endpoint_router.specs.declared.answer.Answer.{Answer}
use Rattle.endpoint_router.specs.declared.answer.Answer.TheVariants.{Created, Gone, IdsSpent as NoIds}
use Rattle.endpoint_router.specs.declared.routing.Routing.{Routing}
use Rattle.endpoint_router.specs.Readings.{answer_to}

-- ---- the entries that are left

-- the first is of that step, on the shard k, and its reply says of the rest what follows
abbrev pub Next : ℕ → Step → (Reply → List Made → Type 0) → List Made → Type 0
Next k asked follows [] = ⊥
Next k asked follows (m ∷ ms) = (m.shard ≡ k) × (m.step ≡ asked) × follows m.reply ms

module _ (answer : Result Answer NoMemory) where
  -- none, and this is the answer
  abbrev pub Answers : Answer → List Made → Type 0
  Answers said [] = answer ≡ Ok said
  Answers said (m ∷ ms) = ⊥

  -- none, since memory was wanted
  abbrev pub Wants : List Made → Type 0
  Wants [] = IsErr answer
  Wants (m ∷ ms) = ⊥

-- ---- the flight, from each of its stages on

module _ (answer : Result Answer NoMemory) (x : Routing) where
  -- the flight ended with 201: its message was taken
  abbrev pub Taken : Reply → List Made → Type 0
  Taken r ms = (r ≡ End 201) × Answers answer (Created x.id x.ttl) ms

  -- the flight ended with 500, since memory was wanted
  abbrev pub GivenUp : Reply → List Made → Type 0
  GivenUp r ms = (r ≡ End 500) × Wants answer ms

  -- at Clear: the route row loses the session that wasn't told
  abbrev pub AtClear : List Made → Type 0
  AtClear ms = Next x.shard (Clear (OfFlight x.op)) Taken ms

  -- the session was told of the stored message, or else it is to be cleared
  abbrev pub TakenOrCleared : Bool → Reply → List Made → Type 0
  TakenOrCleared true r ms = Taken r ms
  TakenOrCleared false r ms = (n : ℕ) × (a : ℕ) × (r ≡ Moved (IsClear n a)) × AtClear ms

  -- at ToldNudge: the link is heard, or it was lost
  abbrev pub AtToldNudge : Bool → List Made → Type 0
  AtToldNudge here ms =
      Next x.shard (Heard (OfFlight x.op)) (TakenOrCleared here) ms ⊎ Next x.shard (Lost (OfFlight x.op)) (TakenOrCleared false) ms

  -- another pass may have made the Nudge before, and then its stage is told
  abbrev pub AfterNudge : Reply → List Made → Type 0
  AfterNudge (Here u) ms = AtToldNudge true ms
  AfterNudge NotHere ms = AtToldNudge false ms
  AfterNudge (StageIs (IsToldNudge here n a)) ms = AtToldNudge here ms
  AfterNudge _ ms = ⊥

  -- at Nudge: the link makes the step, or it was lost before
  abbrev pub AtNudge : List Made → Type 0
  AtNudge ms =
      Next x.shard (Nudge (OfFlight x.op)) AfterNudge ms ⊎ Next x.shard (Lost (OfFlight x.op)) (TakenOrCleared false) ms

  -- the route row names a session, or none
  abbrev pub AfterReread : Reply → List Made → Type 0
  AfterReread (Names n a) ms = AtNudge ms
  AfterReread r ms = Taken r ms

  abbrev pub AtReread : List Made → Type 0
  AtReread ms = Next x.shard (Reread (OfFlight x.op)) AfterReread ms

  -- the message is a row, or the flight ended: with 201 it was taken, with 410 its channel is gone, with 503 the rows are full
  abbrev pub AfterStore : Reply → List Made → Type 0
  AfterStore (End code) ms = (is_store_reply (End code) ≡ true) × Answers answer (answer_to x.id x.ttl code) ms
  AfterStore Stored ms = AtReread ms
  AfterStore _ ms = ⊥

  abbrev pub AtStore : List Made → Type 0
  AtStore ms = Next x.shard (Store x.op) AfterStore ms ⊎ Next x.shard (GiveUp x.op) GivenUp ms

  -- the session has the message, or it is never stored; or else it is to be stored
  abbrev pub TakenOrStored : Bool → Reply → List Made → Type 0
  TakenOrStored true r ms = Taken r ms
  TakenOrStored false r ms = (r ≡ Moved IsStore) × AtStore ms

  -- at Told: the link is heard, or it was lost
  abbrev pub AtTold : Bool → List Made → Type 0
  AtTold here ms =
      Next x.shard (Heard (OfFlight x.op)) (TakenOrStored (here || (x.ttl == 0))) ms
      ⊎ Next x.shard (Lost (OfFlight x.op)) (TakenOrStored (x.ttl == 0)) ms

  -- another pass may have made the Direct before, and then its stage is told
  abbrev pub AfterDirect : Reply → List Made → Type 0
  AfterDirect (Here u) ms = AtTold true ms
  AfterDirect NotHere ms = AtTold false ms
  AfterDirect (StageIs (IsTold here)) ms = AtTold here ms
  AfterDirect _ ms = ⊥

  -- at Direct: the link makes the step, or it was lost before, or memory was wanted
  abbrev pub AtDirect : List Made → Type 0
  AtDirect ms =
      Next x.shard (Direct x.op) AfterDirect ms
      ⊎ (Next x.shard (Lost (OfFlight x.op)) (TakenOrStored (x.ttl == 0)) ms ⊎ Next x.shard (GiveUp x.op) GivenUp ms)

-- ---- the whole route

module _ (k : ℕ) (o : Op) (ttl : ℕ) (answer : Result Answer NoMemory) where
  -- the flight of the message with that id
  abbrev pub routed : MsgId → Routing
  routed i = record { shard = k; op = o; id = i; ttl = ttl }

  -- where the user isn't routed: a message with ttl 0 was taken, another is to be stored
  abbrev pub Unrouted : Bool → MsgId → List Made → Type 0
  Unrouted true i ms = Answers answer (Created i ttl) ms
  Unrouted false i ms = AtStore answer (routed i) ms

  abbrev pub AfterBegin : Reply → List Made → Type 0
  AfterBegin NoToken ms = Answers answer Gone ms
  AfterBegin IdsSpent ms = Answers answer NoIds ms
  AfterBegin (Begun i (Some p)) ms = AtDirect answer (routed i) ms
  AfterBegin (Begun i None) ms = Unrouted (ttl == 0) i ms
  AfterBegin _ ms = ⊥

module _ (k : ℕ) (o : Op) (now : ℕ) (t : Token) (ask : AskValue) (answer : Result Answer NoMemory) where
  abbrev pub AfterTick : Reply → List Made → Type 0
  AfterTick r ms = (r ≡ Done) × (Next k (Begin o t ask) (AfterBegin k o ask.terms.ttl answer) ms ⊎ Wants answer ms)

  -- The clock goes on to the moment `now`; the flight o begins, with what was asked for the token t; and then the flight's
  -- stages say what follows. The answer is that of the last entry.
  abbrev pub IsRoute : List Made → Type 0
  IsRoute ms = Next k (Tick now) AfterTick ms
