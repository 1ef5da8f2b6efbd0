-- Each step keeps the facts of a world, and so they hold of every world that is reached.
use Rattle.std.proofs.Common.{◌≡◌, ℕ, ◌+◌, ◌≤◌, ◌^◌, max, Bool, true, false, ◌||◌, not, inl, inr, List, [], ◌∷◌, refl, ap, sym, subst, arith}
use Rattle.std.specs.Prelude.{Option, Some, None, find, nat_lt, nat_le, length, ◌==◌, count_by, if◌then◌else◌}
use Rattle.std.specs.List.{list_any, list_all, flat_map, AllByRecursion}
use Rattle.std.specs.Map.{lookup}
use Rattle.std.proofs.lemmas.Bool.Decides.{nat_tests}
use Rattle.push_model.specs.declared.entry.Entry.{Entry}
use Rattle.push_model.specs.declared.ids.Uaid.{Uaid}
use Rattle.push_model.specs.declared.ids.Op.{Op}
use Rattle.push_model.specs.declared.ids.Token.{Token}
use Rattle.push_model.specs.declared.parts.Channel.{Channel}
use Rattle.push_model.specs.declared.parts.FlightRow.{FlightRow}
use Rattle.push_model.specs.declared.advance.Event.TheVariants.{Heard as HeardOf, Lost as LostOf, GiveUp as GivenUp}
use Rattle.push_model.specs.declared.step.Actor.TheVariants.{Flight as OfFlight, Saver as OfSaver}
use Rattle.push_model.specs.declared.step.Stage.{Stage}
use Rattle.push_model.specs.declared.step.Stage.TheVariants.{Store as AtStore, Reread as AtReread, Nudge as AtNudge, ToldNudge as AtToldNudge, Clear as AtClear, Saving as AtSaving}
use Rattle.push_model.specs.declared.step.Step.{Step}
use Rattle.push_model.specs.declared.step.Step.TheVariants.{Create, Attach, Register, Begin, Direct, Store, GiveUp, Reread, Nudge, Heard, Lost, TakeCheck, FetchTopic, FetchPlain, TakeDirect, Ack, Tick, Claim as ClaimStep, Unregister, Renew, Close, Release, SaveOne, Clear, Notif, Kill, Up, Expire, DropUser, ListOrphans, ListIdle, Report}
use Rattle.push_model.specs.declared.reply.Reply.{Reply}
use Rattle.push_model.specs.declared.reply.Reply.TheVariants.{IdsSpent}
use Rattle.push_model.specs.AskValue.{AskValue}
use Rattle.push_model.specs.MessageValue.{MessageValue}
use Rattle.push_model.specs.Sessions.{held, is_attached_at}
use Rattle.push_model.specs.Rows.{is_row, shares_topic}
use Rattle.push_model.specs.Cells.{Cell, User, channels_of, is_channel, is_flight, is_there, is_token, rows_of}
use Rattle.push_model.specs.Covering.{is_saving}
use Rattle.push_model.specs.Outcomes.{Outcome}
use Rattle.push_model.specs.FlightSteps.{begin}
use Rattle.push_model.specs.ClockSteps.{ticked}
use Rattle.push_model.specs.NodeSteps.{killed}
use Rattle.push_model.specs.Worlds.{World, start, cell_at, each, found_or_empty, has_flight_in, has_token_in, on_cell, on_flight_of}
use Rattle.push_model.specs.ShardSteps.{counts, begin_beside, begin_for, begin_on, new_message, refusal}
use Rattle.push_model.specs.Steps.{Action, OnUser, OnFlight, OnShard, IsOnCell, act, act_unless, action, made, step}
use Rattle.push_model.specs.Histories.{IsLegal, world_after}
use Rattle.push_model.specs.Pools.{Pool, empty_pool, after_all}
use Rattle.push_model.specs.Images.{copies, image}
use Rattle.push_model.specs.Reached.{IsReached}
use Rattle.push_model.proofs.Members.{In, from_flat_map, from_map}
use Rattle.push_model.proofs.Entries.{at, lookup_in}
use Rattle.push_model.proofs.CellFacts.{CellFacts, IsLasting, IsStoring, copy_own, listed_copy}
use Rattle.push_model.proofs.InStep.{InStep}
use Rattle.push_model.proofs.Lift.{mine}
use Rattle.push_model.proofs.Care.{CareFacts, IsWithin}
use Rattle.push_model.proofs.CareLift.{AllCared, cared_at, put_back}
use Rattle.push_model.proofs.Cared.{made_cared, counted as none_waits}
use Rattle.push_model.proofs.Accounted.{entry_kept, start_in_step}
use Rattle.push_laws.specs.Sound.{IsSound, IsSoundCell, is_storable, is_storing, is_within, lasts}
use Rattle.push_laws.proofs.Counts.{amount, amount-flat, amount-single, counted, total}
use Rattle.push_laws.proofs.Names.{copy_below, flights_made, flown, has_message, is_op_stageless, number_begun, op_begun, tokens_made, with_token}
use Rattle.push_laws.proofs.Actors.{claim_key, saver_key, session_key}
use Rattle.push_laws.proofs.Tidy.{Tidy, empty_tidy, killed_tidy, ticked_tidy}
use Rattle.push_laws.proofs.SessionTidy.{ack_tidy, attach_tidy, claim_tidy, create_tidy, drop_tidy, expire_tidy, fetch_plain_tidy, fetch_topic_tidy, register_tidy, renew_tidy, take_check_tidy, take_direct_tidy, unregister_tidy}
use Rattle.push_laws.proofs.FlightTidy.{begin_tidy, clear_tidy, close_tidy, direct_tidy, event_tidy, notif_tidy, nudge_tidy, release_tidy, reread_tidy, save_tidy, saver_clear_tidy, saver_event_tidy, saver_nudge_tidy, saver_reread_tidy, store_tidy}

-- ---- each step on one user leaves the cell tidy

abbrev Keeps : ℕ → Pool → Action → Type 0
Keeps moment p (OnUser u f) = (c : Cell) → CellFacts p c → CareFacts c → Tidy moment c → Tidy moment (f c).cell
Keeps moment p (OnFlight o f) = (c : Cell) → CellFacts p c → CareFacts c → Tidy moment c → Tidy moment (f c).cell
Keeps moment p (OnShard f) = Unit {0}

keeps : (moment : ℕ) (p : Pool) (x : Step) → Keeps moment p (action moment x)
keeps moment p (Create s) = λ c k r h. create_tidy moment moment s c r h
keeps moment p (Attach s) = λ c k r h. attach_tidy moment s c h
keeps moment p (Register s i t) = λ c k r h. register_tidy moment s i t c h
keeps moment p (Direct o) = λ c k r h. direct_tidy moment moment o c h
keeps moment p (Store o) = λ c k r h. store_tidy moment p o c k h
keeps moment p (GiveUp o) = λ c k r h. event_tidy moment GivenUp o c h
keeps moment p (Reread (OfFlight o)) = λ c k r h. reread_tidy moment o c h
keeps moment p (Reread (OfSaver s)) = λ c k r h. saver_reread_tidy moment s c h
keeps moment p (Nudge (OfFlight o)) = λ c k r h. nudge_tidy moment o c h
keeps moment p (Nudge (OfSaver s)) = λ c k r h. saver_nudge_tidy moment s c h
keeps moment p (Heard (OfFlight o)) = λ c k r h. event_tidy moment HeardOf o c h
keeps moment p (Heard (OfSaver s)) = λ c k r h. saver_event_tidy moment HeardOf s c h
keeps moment p (Lost (OfFlight o)) = λ c k r h. event_tidy moment LostOf o c h
keeps moment p (Lost (OfSaver s)) = λ c k r h. saver_event_tidy moment LostOf s c h
keeps moment p (TakeCheck s) = λ c k r h. take_check_tidy moment s c h
keeps moment p (FetchTopic s) = λ c k r h. fetch_topic_tidy moment s c h
keeps moment p (FetchPlain s) = λ c k r h. fetch_plain_tidy moment s c h
keeps moment p (TakeDirect s) = λ c k r h. take_direct_tidy moment moment s c h
keeps moment p (Ack s i n) = λ c k r h. ack_tidy moment s i n c h
keeps moment p (ClaimStep s) = λ c k r h. claim_tidy moment moment s c r h
keeps moment p (Unregister s i) = λ c k r h. unregister_tidy moment s i c h
keeps moment p (Renew s) = λ c k r h. renew_tidy moment moment s c h
keeps moment p (Close s) = λ c k r h. close_tidy moment moment s c r h
keeps moment p (Release s) = λ c k r h. release_tidy moment s c h
keeps moment p (SaveOne s) = λ c k r h. save_tidy moment s c h
keeps moment p (Clear (OfFlight o)) = λ c k r h. clear_tidy moment o c h
keeps moment p (Clear (OfSaver s)) = λ c k r h. saver_clear_tidy moment s c h
keeps moment p (Notif n u) = λ c k r h. notif_tidy moment n c h
keeps moment p (Expire u) = λ c k r h. expire_tidy moment moment c h
keeps moment p (DropUser u) = λ c k r h. drop_tidy moment c h
keeps moment p _ = tt

-- ---- in the world

abbrev pub AllTidy : ℕ → List (ℕ × Cell) → Type 0
AllTidy moment es = (e : ℕ × Cell) → In e es → Tidy moment e.1

tidy_of : (moment : ℕ) (u : Uaid) (es : List (ℕ × Cell)) (o : Option Cell) → AllTidy moment es → lookup (at u.0) es ≡ o → Tidy moment (found_or_empty o u)
tidy_of moment u es None h e = empty_tidy moment u
tidy_of moment u es (Some c) h e = let a = lookup_in u.0 es c e in subst (Tidy moment) a.3 (h a.0 a.1)

cell_tidy : (w : World) (u : Uaid) (f : Cell → Outcome) → AllTidy w.clock w.cells → (Tidy w.clock (cell_at w.cells u) → Tidy w.clock (f (cell_at w.cells u)).cell) →
    AllTidy w.clock (on_cell w u f).0.cells
cell_tidy w u f h g e i =
    let v = (f (cell_at w.cells u)).cell in
    elim (put_back u v (lookup (at u.0) w.cells) w.cells e (is_there v) i) [
      | inl j ↦ h e j
      | inr q ↦ subst (Tidy w.clock) (sym q) (g (tidy_of w.clock u w.cells (lookup (at u.0) w.cells) h refl))
    ]

user_act : (p : Pool) (w : World) (u : Uaid) (f : Cell → Outcome) → InStep p w → AllCared w.cells → AllTidy w.clock w.cells →
    ((c : Cell) → CellFacts p c → CareFacts c → Tidy w.clock c → Tidy w.clock (f c).cell) → AllTidy w.clock (on_cell w u f).0.cells
user_act p w u f k r h g = cell_tidy w u f h (g (cell_at w.cells u) (mine p w u k.sound).facts (cared_at w u r))

flight_act : (p : Pool) (w : World) (e : Option (ℕ × Cell)) (f : Cell → Outcome) → InStep p w → AllCared w.cells → AllTidy w.clock w.cells →
    ((c : Cell) → CellFacts p c → CareFacts c → Tidy w.clock c → Tidy w.clock (f c).cell) → AllTidy w.clock (on_flight_of e w f).0.cells
flight_act p w None f k r h g = h
flight_act p w (Some e) f k r h g = user_act p w e.1.uaid f k r h g

flight_clock : (w : World) (e : Option (ℕ × Cell)) (f : Cell → Outcome) → AllTidy w.clock (on_flight_of e w f).0.cells →
    AllTidy (on_flight_of e w f).0.clock (on_flight_of e w f).0.cells
flight_clock w None f h = h
flight_clock w (Some e) f h = h

tidy_act : (p : Pool) (w : World) (a : Action) → IsOnCell a → Keeps w.clock p a → InStep p w → AllCared w.cells → AllTidy w.clock w.cells →
    AllTidy (act a w).0.clock (act a w).0.cells
tidy_act p w (OnUser u f) i g k r h = user_act p w u f k r h g
tidy_act p w (OnFlight o f) i g k r h = flight_clock w (find (has_flight_in o) w.cells) f (flight_act p w (find (has_flight_in o) w.cells) f k r h g)
tidy_act p w (OnShard f) i g k r h = absurd i

tidy_unless : (p : Pool) (w : World) (o : Option Reply) (x : Step) → IsOnCell (action w.clock x) → InStep p w → AllCared w.cells → AllTidy w.clock w.cells →
    AllTidy (act_unless o (action w.clock x) w).0.clock (act_unless o (action w.clock x) w).0.cells
tidy_unless p w (Some reply) x i k r h = h
tidy_unless p w None x i k r h = tidy_act p w (action w.clock x) i (keeps w.clock p x) k r h

each_tidy : (moment : ℕ) (f : Cell → Cell) (es : List (ℕ × Cell)) → ((e : ℕ × Cell) → In e es → Tidy moment (f e.1)) → AllTidy moment (each f es)
each_tidy moment f es g e i = let a = from_map (λ (d : ℕ × Cell). (d.0, f d.1)) e es i in subst (λ (y : ℕ × Cell). Tidy moment y.1) (sym a.2) (g a.0 a.1)

begin_by : (w : World) (o : Op) (t : Token) (a : AskValue) (c : Cell) (x : Channel) (b : Bool) → AllTidy w.clock w.cells →
    (let m = (if b then (w, IdsSpent) else on_cell (record w { next = w.next + 1 }) c.uaid (begin o t (new_message w c x.chid a))).0 in AllTidy m.clock m.cells)
begin_by w o t a c x true h = h
begin_by w o t a c x false h =
    let v = record w { next = w.next + 1 } in
    cell_tidy v c.uaid (begin o t (new_message w c x.chid a)) h (begin_tidy w.clock o t (new_message w c x.chid a) (cell_at v.cells c.uaid))

begin_channel : (w : World) (o : Op) (t : Token) (a : AskValue) (c : Cell) (x : Option Channel) → AllTidy w.clock w.cells →
    AllTidy (begin_on x w o t a c).0.clock (begin_on x w o t a c).0.cells
begin_channel w o t a c None h = h
begin_channel w o t a c (Some x) h = begin_by w o t a c x (w.next == 2 ^ 63) h

begin_token : (w : World) (o : Op) (t : Token) (a : AskValue) (e : Option (ℕ × Cell)) → AllTidy w.clock w.cells →
    AllTidy (begin_for e w o t a).0.clock (begin_for e w o t a).0.cells
begin_token w o t a None h = h
begin_token w o t a (Some e) h = begin_channel w o t a e.1 (find (is_token t) (channels_of e.1.user)) h

begin_used : (w : World) (o : Op) (t : Token) (a : AskValue) (e : Option (ℕ × Cell)) → AllTidy w.clock w.cells →
    AllTidy (begin_beside e w o t a).0.clock (begin_beside e w o t a).0.cells
begin_used w o t a (Some e) h = h
begin_used w o t a None h = begin_token w o t a (find (has_token_in t) w.cells) h

tidy_made : (p : Pool) (w : World) (x : Step) → InStep p w → AllCared w.cells → AllTidy w.clock w.cells → AllTidy (made w x).0.clock (made w x).0.cells
tidy_made p w (Begin o t a) k r h = begin_used w o t a (find (has_flight_in o) w.cells) h
tidy_made p w (Tick t) k r h =
    each_tidy (max w.clock t) (ticked (max w.clock t)) w.cells (λ e i. ticked_tidy w.clock (max w.clock t) e.1 (h e i))
tidy_made p w (Kill n) k r h = each_tidy w.clock (killed n) w.cells (λ e i. killed_tidy w.clock n e.1 (h e i))
tidy_made p w (Up n) k r h = h
tidy_made p w ListOrphans k r h = h
tidy_made p w ListIdle k r h = h
tidy_made p w Report k r h = h
tidy_made p w (Attach s) k r h = tidy_unless p w (refusal w (Attach s)) (Attach s) tt k r h
tidy_made p w (Register s i t) k r h = tidy_unless p w (refusal w (Register s i t)) (Register s i t) tt k r h
tidy_made p w (Reread (OfFlight o)) k r h = tidy_unless p w None (Reread (OfFlight o)) tt k r h
tidy_made p w (Reread (OfSaver s)) k r h = tidy_unless p w None (Reread (OfSaver s)) tt k r h
tidy_made p w (Nudge (OfFlight o)) k r h = tidy_unless p w None (Nudge (OfFlight o)) tt k r h
tidy_made p w (Nudge (OfSaver s)) k r h = tidy_unless p w None (Nudge (OfSaver s)) tt k r h
tidy_made p w (Heard (OfFlight o)) k r h = tidy_unless p w None (Heard (OfFlight o)) tt k r h
tidy_made p w (Heard (OfSaver s)) k r h = tidy_unless p w None (Heard (OfSaver s)) tt k r h
tidy_made p w (Lost (OfFlight o)) k r h = tidy_unless p w None (Lost (OfFlight o)) tt k r h
tidy_made p w (Lost (OfSaver s)) k r h = tidy_unless p w None (Lost (OfSaver s)) tt k r h
tidy_made p w (Clear (OfFlight o)) k r h = tidy_unless p w None (Clear (OfFlight o)) tt k r h
tidy_made p w (Clear (OfSaver s)) k r h = tidy_unless p w None (Clear (OfSaver s)) tt k r h
tidy_made p w x k r h = tidy_unless p w None x tt k r h

-- ---- all that is known of a world

pub record Kept (w : World) : Type 0 where
  pub pool : Pool
  pub in_step : InStep pool w
  pub cared : AllCared w.cells
  pub tidy : AllTidy w.clock w.cells
  pub tokens : (t : Token) → total (with_token t) w.cells ≤ 1
  pub ops : (o : Op) → total (flown (is_flight o)) w.cells ≤ 1
  pub messages : (n : ℕ) → total (flown (has_message n)) w.cells ≤ 1

kept_more : (w : World) (e : Entry Step Reply) → e.reply ≡ (step w e.step).1 → Kept w → Kept (step w e.step).0
kept_more w e l h =
    record {
      pool = after_all (image h.pool w e) h.pool;
      in_step = (entry_kept h.pool w e h.in_step l).in_step;
      cared = made_cared h.pool w e.step h.in_step h.cared;
      tidy = tidy_made h.pool w e.step h.in_step h.cared h.tidy;
      tokens = λ t. tokens_made t w e.step (h.tokens t);
      ops = λ o. flights_made (is_flight o) w e.step (is_op_stageless o) (h.ops o) (op_begun o w e.step);
      messages = λ n. flights_made (has_message n) w e.step (λ s f. refl) (h.messages n) (number_begun h.pool n w e.step h.in_step.sound);
    }

pub kept_from : (w : World) (es : List (Entry Step Reply)) → IsLegal step w es → Kept w → Kept (world_after step w es)
kept_from w [] l h = h
kept_from w (e ∷ es) l h = kept_from (step w e.step).0 es l.1 (kept_more w e l.0 h)

pub kept_start : (shard next : ℕ) → Kept (start shard next)
kept_start shard next =
    record {
      pool = empty_pool;
      in_step = start_in_step shard next;
      cared = λ e i. elim i [ ];
      tidy = λ e i. elim i [ ];
      tokens = λ t. omega arith;
      ops = λ o. omega arith;
      messages = λ n. omega arith;
    }

-- ---- in the words of the definitions

listed : {A : Type 0} (p : A → Bool) (xs : List A) → ((x : A) → In x xs → p x ≡ true) → list_all p xs ≡ true
listed p [] f = refl
listed p (x ∷ xs) f = rw (f x (inl refl)) (listed p xs (λ y i. f y (inr i)))

all_by : {A : Type 0} (P : A → Type 0) (xs : List A) → ((x : A) → In x xs → P x) → AllByRecursion P xs
all_by P [] f = tt
all_by P (x ∷ xs) f = (f x (inl refl), all_by P xs (λ y i. f y (inr i)))

no_more : (a b : ℕ) → a ≤ b → nat_le a b ≡ true
no_more a b h = grind (arith, nat_tests)

within_is : (a : ℕ) (o : Option User) → IsWithin a o → is_within a o ≡ true
within_is a None w = absurd w
within_is a (Some u) w = no_more a u.route.at w

storing_above : (n : ℕ) → (n == 0) ≡ false → nat_lt 0 n ≡ true
storing_above n e = grind (arith, nat_tests)

storable_by : (f : FlightRow) (stage : Stage) → (IsStoring stage → IsLasting f.message) → (not (is_storing stage) || nat_lt 0 f.message.ask.terms.ttl) ≡ true
storable_by f AtStore h = storing_above f.message.ask.terms.ttl (h tt)
storable_by f AtReread h = storing_above f.message.ask.terms.ttl (h tt)
storable_by f (AtNudge n a) h = storing_above f.message.ask.terms.ttl (h tt)
storable_by f (AtToldNudge b n a) h = storing_above f.message.ask.terms.ttl (h tt)
storable_by f (AtClear n a) h = storing_above f.message.ask.terms.ttl (h tt)
storable_by f _ h = refl

right_holds : (b : Bool) → (b || true) ≡ true
right_holds true = refl
right_holds false = refl

saving_by : (stage : Stage) (ms : List MessageValue) → ((m : MessageValue) → In m ms → stage ≡ AtSaving) → (is_saving stage || (length ms == 0)) ≡ true
saving_by stage [] f = right_holds (is_saving stage)
saving_by stage (m ∷ ms) f = ap (λ s. is_saving s || (length (m ∷ ms) == 0)) (f m (inl refl))

one_at_most : {A : Type 0} (p : A → Bool) (xs : List A) → amount p xs ≤ 1 → count_by p xs ≤ 1
one_at_most p xs h = let e = counted p xs in omega (arith, e, h)

sound_cell : (moment : ℕ) (p : Pool) (c : Cell) → CellFacts p c → CareFacts c → Tidy moment c → IsSoundCell moment c
sound_cell moment p c k r h =
    record {
      claims = listed (λ x. is_within x.at c.user) c.claims (λ x i. within_is x.at c.user (r.claims x i));
      sessions = listed (λ x. is_within x.at c.user) c.sessions (λ x i. within_is x.at c.user (r.sessions x i));
      savers = listed (λ x. is_within x.at c.user) c.savers (λ x i. within_is x.at c.user (h.actors.savers x i).within);
      keys = λ n a.
          let d = counted (claim_key n a) c.claims in
          let e = counted (session_key n a) c.sessions in
          let f = counted (saver_key n a) c.savers in
          let l = h.actors.keys n a in
          omega (arith, d, e, f, l);
      attached = λ n. one_at_most (is_attached_at n) c.sessions (amount-single (is_attached_at n) c.sessions (r.alone n));
      rows = λ i. one_at_most (is_row i) (rows_of c.user) (amount-single (is_row i) (rows_of c.user) (r.rows i));
      topics = λ m. one_at_most (shares_topic m) (rows_of c.user) (h.rows.topics m);
      registered = listed (λ x. list_any (is_channel x.message.chid) (channels_of c.user)) (rows_of c.user) h.rows.registered;
      lasting = listed (λ x. lasts moment x.message) (rows_of c.user) h.rows.lasting;
      storable = listed is_storable c.flights (λ f i. storable_by f f.stage (k.flights f i).lasting);
      session_bound = listed (λ x. nat_le (length (held x)) 500) c.sessions h.actors.sessions;
      saver_bound = listed (λ v. nat_le (length v.held) 500) c.savers (λ v i. (h.actors.savers v i).bounded);
      saving = listed (λ v. is_saving v.stage || (length v.held == 0)) c.savers (λ v i. saving_by v.stage v.held (k.savers v i).saving);
    }

flat_at_most : {A : Type 0} (p : A → Bool) (f : ℕ × Cell → List A) (g : Cell → ℕ) (es : List (ℕ × Cell)) → ((e : ℕ × Cell) → amount p (f e) ≡ g e.1) → total g es ≤ 1 →
    count_by p (flat_map f es) ≤ 1
flat_at_most p f g es h k =
    let a = counted p (flat_map f es) in let b = amount-flat p f g es h in omega (arith, a, b, k)

pub sound : (w : World) → Kept w → IsSound w
sound w h =
    let s = h.in_step.sound in
    record {
      cells = all_by (λ e. IsSoundCell w.clock e.1) w.cells (λ e i. sound_cell w.clock h.pool e.1 (s.cells e i) (h.cared e i) (h.tidy e i));
      keys = all_by (λ e. e.0 ≡ e.1.uaid.0) w.cells s.keys;
      own = all_by (λ e. AllByRecursion (λ m. m.uaid ≡ e.1.uaid) (copies e.1)) w.cells
          (λ e i. all_by (λ m. m.uaid ≡ e.1.uaid) (copies e.1) (λ m j. (copy_own h.pool e.1 m (s.cells e i) (listed_copy m e.1 j)).owned));
      numbers = listed (λ m. nat_lt m.id.number w.next) (flat_map (λ e. copies e.1) w.cells)
          (λ m i. let e = from_flat_map (λ e. copies e.1) m w.cells i in copy_below h.pool w e.0 m s e.1 (listed_copy m e.0.1 e.2));
      tokens = λ t. flat_at_most (is_token t) (λ e. channels_of e.1.user) (with_token t) w.cells (λ e. refl) (h.tokens t);
      ops = λ o. flat_at_most (is_flight o) (λ e. e.1.flights) (flown (is_flight o)) w.cells (λ e. refl) (h.ops o);
      messages = λ n. flat_at_most (has_message n) (λ e. e.1.flights) (flown (has_message n)) w.cells (λ e. refl) (h.messages n);
    }

-- every world that is reached is sound
pub reached_sound : (w : World) → IsReached w → IsSound w
reached_sound w r =
    subst IsSound r.is (sound (world_after step (start r.shard r.next) r.entries) (kept_from (start r.shard r.next) r.entries r.legal (kept_start r.shard r.next)))

-- none of its rows waits
pub reached_waits : (w : World) → IsReached w → (counts w).waiting ≡ 0
reached_waits w r =
    subst (λ v. (counts v).waiting ≡ 0) r.is
    (none_waits (world_after step (start r.shard r.next) r.entries) (kept_from (start r.shard r.next) r.entries r.legal (kept_start r.shard r.next)).cared)
