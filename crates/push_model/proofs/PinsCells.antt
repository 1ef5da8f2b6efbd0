-- After each step each cell has a user or a flight, stands under its user's number, and is the only one there.
use Rattle.std.proofs.Common.{◌≡◌, ◌≢◌, ℕ, ◌<◌, ◌+◌, ◌^◌, Bool, true, false, cond, ◌⊎◌, inl, inr, List, [], ◌∷◌, length, refl, sym, subst, arith}
use Rattle.std.specs.Prelude.{find, max, Option, Some, None, is_some, ◌==◌, ◌||◌, not, All, AllPairs, if◌then◌else◌}
use Rattle.std.specs.Map.{lookup, remove_entry}
use Rattle.std.proofs.lemmas.List.Kept.{AllPairs-cons}
use Rattle.std.proofs.lemmas.Bool.Decides.{nat_tests}
use Rattle.push_model.specs.declared.ids.Uaid.{Uaid}
use Rattle.push_model.specs.declared.ids.Op.{Op}
use Rattle.push_model.specs.declared.ids.Token.{Token}
use Rattle.push_model.specs.declared.parts.Channel.{Channel}
use Rattle.push_model.specs.declared.parts.FlightRow.{FlightRow}
use Rattle.push_model.specs.declared.entry.Entry.{Entry}
use Rattle.push_model.specs.declared.step.Actor.TheVariants.{Flight as OfFlight, Saver as OfSaver}
use Rattle.push_model.specs.declared.step.Step.{Step}
use Rattle.push_model.specs.declared.step.Step.TheVariants.{Create, Attach, Register, Begin, Direct, Store, GiveUp, Reread, Nudge, Heard, Lost, TakeCheck, FetchTopic, FetchPlain, TakeDirect, Ack, Tick, Claim, Unregister, Renew, Close, Release, SaveOne, Clear, Notif, Kill, Up, Expire, DropUser, ListOrphans, ListIdle, Report}
use Rattle.push_model.specs.declared.reply.Reply.{Reply}
use Rattle.push_model.specs.declared.reply.Reply.TheVariants.{IdsSpent}
use Rattle.push_model.specs.AskValue.{AskValue}
use Rattle.push_model.specs.Cells.{Cell, Saver, User, empty_cell, is_there, is_token, channels_of}
use Rattle.push_model.specs.Outcomes.{Outcome}
use Rattle.push_model.specs.UserSteps.{create, claim, expire, drop_user}
use Rattle.push_model.specs.SessionSteps.{attach, register, unregister, take_direct, ack, renew}
use Rattle.push_model.specs.FetchSteps.{take_check, fetch_topic, fetch_plain}
use Rattle.push_model.specs.FlightSteps.{begin, direct, store, give_up, reread, nudge, heard, lost, clear}
use Rattle.push_model.specs.SaverSteps.{close, release, save, saver_reread, saver_nudge, saver_heard, saver_lost, saver_clear}
use Rattle.push_model.specs.NodeSteps.{killed, notif, with_orphans}
use Rattle.push_model.specs.ClockSteps.{ticked, without_due}
use Rattle.push_model.specs.Worlds.{World, start, put_beside, with_cell, on_cell, on_flight_of, has_flight_in, has_token_in, cell_at, each}
use Rattle.push_model.specs.ShardSteps.{refusal, begin_beside, begin_for, begin_on, new_message}
use Rattle.push_model.specs.Steps.{Action, act, act_unless, action, step}
use Rattle.push_model.specs.Histories.{IsLegal, world_after}
use Rattle.push_model.specs.Pools.{Pool, empty_pool, after_all}
use Rattle.push_model.specs.Images.{image}
use Rattle.push_model.specs.Pins.{HasUserOrFlight}
use Rattle.push_model.proofs.Members.{In, Distinct, from_map}
use Rattle.push_model.proofs.Entries.{key, at, put_set, put_insert}
use Rattle.push_model.proofs.InStep.{InStep}
use Rattle.push_model.proofs.Accounted.{entry_kept, start_in_step}
use Rattle.push_model.proofs.PinsPools.{all_by}

-- ---- a cell that is there

abbrev pub AllThere : List (ℕ × Cell) → Type 0
AllThere es = (e : ℕ × Cell) → In e es → is_there e.1 ≡ true

some_flights : (fs : List FlightRow) → not (length fs == 0) ≡ true → 0 < length fs
some_flights fs h = grind (arith, nat_tests)

user_or_flight : (u : Bool) (fs : List FlightRow) → (u || not (length fs == 0)) ≡ true → (u ≡ true) ⊎ (0 < length fs)
user_or_flight true fs h = inl refl
user_or_flight false fs h = inr (some_flights fs h)

-- ---- the cells with one put among them

gone_cons : (b : Bool) (d e : ℕ × Cell) (es fs : List (ℕ × Cell)) → (In e fs → In e es) → In e (cond b es (d ∷ fs)) → In e (d ∷ es)
gone_cons true d e es fs f i = inr i
gone_cons false d e es fs f (inl q) = inl q
gone_cons false d e es fs f (inr i) = inr (f i)

gone_in : (n : ℕ) (e : ℕ × Cell) (es : List (ℕ × Cell)) → In e (remove_entry (at n) es) → In e es
gone_in n e [] i = elim i [ ]
gone_in n e (d ∷ es) i = gone_cons (at n d.0) d e es (remove_entry (at n) es) (gone_in n e es) i

beside_there : (u : Uaid) (v : Cell) (es : List (ℕ × Cell)) (o : Option Cell) → Distinct key es → lookup (at u.0) es ≡ o → AllThere es → is_there v ≡ true →
    AllThere (put_beside o u v es)
beside_there u v es None d h a t e i =
    elim ((put_insert u.0 (empty_cell u) v es d h).back e i) [ inl j ↦ a e j.0 | inr j ↦ subst (λ c. is_there c ≡ true) (sym j.1) t ]
beside_there u v es (Some c) d h a t e i =
    elim ((put_set u.0 c v es d h).back e i) [ inl j ↦ a e j.0 | inr j ↦ subst (λ c. is_there c ≡ true) (sym j.1) t ]

put_there : (u : Uaid) (v : Cell) (es : List (ℕ × Cell)) (b : Bool) → Distinct key es → AllThere es → is_there v ≡ b →
    AllThere (if b then put_beside (lookup (at u.0) es) u v es else remove_entry (at u.0) es)
put_there u v es true d a t = beside_there u v es (lookup (at u.0) es) d refl a t
put_there u v es false d a t = λ e i. a e (gone_in u.0 e es i)

cell_there : (u : Uaid) (v : Cell) (es : List (ℕ × Cell)) → Distinct key es → AllThere es → AllThere (with_cell u v es)
cell_there u v es d a = put_there u v es (is_there v) d a refl

-- ---- a step

user_there : (w : World) (u : Uaid) (f : Cell → Outcome) → Distinct key w.cells → AllThere w.cells → AllThere (on_cell w u f).0.cells
user_there w u f d h = cell_there u (f (cell_at w.cells u)).cell w.cells d h

flight_there : (w : World) (f : Cell → Outcome) (e : Option (ℕ × Cell)) → Distinct key w.cells → AllThere w.cells → AllThere (on_flight_of e w f).0.cells
flight_there w f None d a = a
flight_there w f (Some e) d a = user_there w e.1.uaid f d a

either_there : (b : Bool) (v w : World × Reply) → AllThere v.0.cells → AllThere w.0.cells → AllThere (if b then v else w).0.cells
either_there true v w h k = h
either_there false v w h k = k

channel_there : (x : Option Channel) (w : World) (o : Op) (t : Token) (a : AskValue) (c : Cell) → Distinct key w.cells → AllThere w.cells →
    AllThere (begin_on x w o t a c).0.cells
channel_there None w o t a c d h = h
channel_there (Some x) w o t a c d h =
    let next : World = record w { next = w.next + 1 } in
    let f : Cell → Outcome = begin o t (new_message w c x.chid a) in
    either_there (w.next == 2 ^ 63) (w, IdsSpent) (on_cell next c.uaid f) h (user_there next c.uaid f d h)

token_there : (e : Option (ℕ × Cell)) (w : World) (o : Op) (t : Token) (a : AskValue) → Distinct key w.cells → AllThere w.cells → AllThere (begin_for e w o t a).0.cells
token_there None w o t a d h = h
token_there (Some e) w o t a d h = channel_there (find (is_token t) (channels_of e.1.user)) w o t a e.1 d h

begin_there : (e : Option (ℕ × Cell)) (w : World) (o : Op) (t : Token) (a : AskValue) → Distinct key w.cells → AllThere w.cells →
    AllThere (begin_beside e w o t a).0.cells
begin_there (Some e) w o t a d h = h
begin_there None w o t a d h = token_there (find (has_token_in t) w.cells) w o t a d h

-- each cell is changed, and none is made or goes
each_there : (f : Cell → Cell) (es : List (ℕ × Cell)) → ((c : Cell) → is_there c ≡ true → is_there (f c) ≡ true) → AllThere es → AllThere (each f es)
each_there f es k h e i =
    let from = from_map (λ (d : ℕ × Cell). (d.0, f d.1)) e es i in
    subst (λ (d : ℕ × Cell). is_there d.1 ≡ true) (sym from.2) (k from.0.1 (h from.0 from.1))

due_user : (t : ℕ) (u : Option User) → is_some (without_due t u) ≡ is_some u
due_user t None = refl
due_user t (Some u) = refl

ticked_there : (t : ℕ) (c : Cell) → is_there c ≡ true → is_there (ticked t c) ≡ true
ticked_there t c h = rw (due_user t c.user) h

orphans_user : (n : ℕ) (vs : List Saver) (u : Option User) → is_some (with_orphans n vs u) ≡ is_some u
orphans_user n vs None = refl
orphans_user n vs (Some u) = refl

killed_there : (n : ℕ) (c : Cell) → is_there c ≡ true → is_there (killed n c) ≡ true
killed_there n c h = rw (orphans_user n c.savers c.user) h

-- an action on a user or a flight
unless_there : (o : Option Reply) (a : Action) (w : World) → AllThere w.cells → AllThere (act a w).0.cells → AllThere (act_unless o a w).0.cells
unless_there (Some r) a w h k = h
unless_there None a w h k = k

act_there : (w : World) (x : Step) → Distinct key w.cells → AllThere w.cells → AllThere (act (action w.clock x) w).0.cells
act_there w (Create s) d h = user_there w s.uaid (create w.clock s) d h
act_there w (Attach s) d h = user_there w s.uaid (attach s) d h
act_there w (Register s k t) d h = user_there w s.uaid (register s k t) d h
act_there w (Begin o t a) d h = begin_there (find (has_flight_in o) w.cells) w o t a d h
act_there w (Direct o) d h = flight_there w (direct w.clock o) (find (has_flight_in o) w.cells) d h
act_there w (Store o) d h = flight_there w (store w.clock o) (find (has_flight_in o) w.cells) d h
act_there w (GiveUp o) d h = flight_there w (give_up o) (find (has_flight_in o) w.cells) d h
act_there w (Reread (OfFlight o)) d h = flight_there w (reread o) (find (has_flight_in o) w.cells) d h
act_there w (Reread (OfSaver s)) d h = user_there w s.uaid (saver_reread s) d h
act_there w (Nudge (OfFlight o)) d h = flight_there w (nudge o) (find (has_flight_in o) w.cells) d h
act_there w (Nudge (OfSaver s)) d h = user_there w s.uaid (saver_nudge s) d h
act_there w (Heard (OfFlight o)) d h = flight_there w (heard o) (find (has_flight_in o) w.cells) d h
act_there w (Heard (OfSaver s)) d h = user_there w s.uaid (saver_heard s) d h
act_there w (Lost (OfFlight o)) d h = flight_there w (lost o) (find (has_flight_in o) w.cells) d h
act_there w (Lost (OfSaver s)) d h = user_there w s.uaid (saver_lost s) d h
act_there w (TakeCheck s) d h = user_there w s.uaid (take_check s) d h
act_there w (FetchTopic s) d h = user_there w s.uaid (fetch_topic s) d h
act_there w (FetchPlain s) d h = user_there w s.uaid (fetch_plain s) d h
act_there w (TakeDirect s) d h = user_there w s.uaid (take_direct w.clock s) d h
act_there w (Ack s c i) d h = user_there w s.uaid (ack s c i) d h
act_there w (Tick t) d h = each_there (ticked (max w.clock t)) w.cells (ticked_there (max w.clock t)) h
act_there w (Claim s) d h = user_there w s.uaid (claim w.clock s) d h
act_there w (Unregister s c) d h = user_there w s.uaid (unregister s c) d h
act_there w (Renew s) d h = user_there w s.uaid (renew w.clock s) d h
act_there w (Close s) d h = user_there w s.uaid (close w.clock s) d h
act_there w (Release s) d h = user_there w s.uaid (release s) d h
act_there w (SaveOne s) d h = user_there w s.uaid (save w.clock s) d h
act_there w (Clear (OfFlight o)) d h = flight_there w (clear o) (find (has_flight_in o) w.cells) d h
act_there w (Clear (OfSaver s)) d h = user_there w s.uaid (saver_clear s) d h
act_there w (Notif n u) d h = user_there w u (notif n) d h
act_there w (Kill n) d h = each_there (killed n) w.cells (killed_there n) h
act_there w (Up n) d h = h
act_there w (Expire u) d h = user_there w u (expire w.clock) d h
act_there w (DropUser u) d h = user_there w u drop_user d h
act_there w ListOrphans d h = h
act_there w ListIdle d h = h
act_there w Report d h = h

step_there : (w : World) (x : Step) → Distinct key w.cells → AllThere w.cells → AllThere (step w x).0.cells
step_there w x d h = unless_there (refusal w x) (action w.clock x) w h (act_there w x d h)

-- ---- legal histories

pub record ThereAfter (w : World) : Type 0 where
  pub there : All (λ (e : ℕ × Cell). HasUserOrFlight e.1) w.cells
  pub keyed : All (λ (e : ℕ × Cell). e.0 ≡ e.1.uaid.0) w.cells
  pub distinct : AllPairs (λ (e f : ℕ × Cell). e.0 ≢ f.0) w.cells

all_apart : (es : List (ℕ × Cell)) → Distinct key es → AllPairs (λ (e f : ℕ × Cell). e.0 ≢ f.0) es
all_apart [] d = λ i j x l m. absurd (omega arith)
all_apart (e ∷ es) d =
    AllPairs-cons (λ (e f : ℕ × Cell). e.0 ≢ f.0) e es (all_by (λ (f : ℕ × Cell). e.0 ≢ f.0) es (λ f i q. d.0 f i (sym q))) (all_apart es d.1)

there_from : (p : Pool) (w : World) (es : List (Entry Step Reply)) → InStep p w → AllThere w.cells → IsLegal step w es → ThereAfter (world_after step w es)
there_from p w [] k h l =
    record {
      there = all_by (λ (e : ℕ × Cell). HasUserOrFlight e.1) w.cells (λ e i. user_or_flight (is_some e.1.user) e.1.flights (h e i));
      keyed = all_by (λ (e : ℕ × Cell). e.0 ≡ e.1.uaid.0) w.cells k.sound.keys;
      distinct = all_apart w.cells k.sound.distinct;
    }
there_from p w (e ∷ es) k h l =
    there_from (after_all (image p w e) p) (step w e.step).0 es (entry_kept p w e k l.0).in_step (step_there w e.step k.sound.distinct h) l.1

pub there_after : (shard next : ℕ) (es : List (Entry Step Reply)) → IsLegal step (start shard next) es → ThereAfter (world_after step (start shard next) es)
there_after shard next es l = there_from empty_pool (start shard next) es (start_in_step shard next) (λ e i. elim i [ ]) l
