-- What the small laws say of entries: each step of the pool has its cause.
use Rattle.std.proofs.Common.{◌≡◌, ℕ, Bool, true, false, ◌&&◌, inl, inr, List, [], ◌∷◌, ◌++◌, refl, ◌∙◌, sym, subst, arith}
use Rattle.std.specs.Prelude.{find, map, Option, Some, None, ◌==◌, not, Contains, if◌then◌else◌}
use Rattle.std.specs.List.{list_any, list_all, flat_map}
use Rattle.std.proofs.lemmas.Bool.Decides.{nat_tests}
use Rattle.push_model.specs.declared.ids.Uaid.{Uaid}
use Rattle.push_model.specs.declared.ids.Op.{Op}
use Rattle.push_model.specs.declared.ids.MsgId.{MsgId}
use Rattle.push_model.specs.declared.ids.Token.{Token}
use Rattle.push_model.specs.declared.entry.Entry.{Entry}
use Rattle.push_model.specs.declared.parts.Channel.{Channel}
use Rattle.push_model.specs.declared.parts.FlightRow.{FlightRow}
use Rattle.push_model.specs.declared.step.Actor.TheVariants.{Flight as OfFlight, Saver as OfSaver}
use Rattle.push_model.specs.declared.step.Step.{Step}
use Rattle.push_model.specs.declared.step.Step.TheVariants.{Register, Begin, Store, GiveUp, Reread, Heard, Lost, FetchTopic, FetchPlain, TakeDirect, Ack as AckStep, Tick as TickStep, Unregister, SaveOne, Clear, Kill, Expire, DropUser}
use Rattle.push_model.specs.declared.reply.Reply.{Reply}
use Rattle.push_model.specs.declared.reply.Reply.TheVariants.{Endpoint, Begun, Stored, End, Page, Acked, Done, Dropped, Saved}
use Rattle.push_model.specs.SessionKey.{SessionKey}
use Rattle.push_model.specs.declared.ids.ChannelId.{ChannelId}
use Rattle.push_model.specs.AskValue.{AskValue}
use Rattle.push_model.specs.MessageValue.{MessageValue}
use Rattle.push_model.specs.Cells.{Cell, is_flight, is_token, channels_of}
use Rattle.push_model.specs.Kinds.{begins_unkept}
use Rattle.push_model.specs.Worlds.{World, has_flight_in, has_token_in}
use Rattle.push_model.specs.Steps.{is_of_flight, step}
use Rattle.push_model.specs.Pools.{Pool, PoolStep, Reason, Show, Ack, Strike, Tick, is_live, reason, after_all}
use Rattle.push_model.specs.Images.{take_on, take_for, answer_at_once, begin_events, answer_of, answer_in, flight_events, keep_of, keep_in, store_events, register_events, page_events, ack_events, messages_on, once, numbers_on, unregister_events, drop_events, save_events, events, leave_for, leave_of, leaves, numbers, image, has_copy}
use Rattle.push_model.specs.Pins.{may_cause, is_strike_of, is_look, shows, drops_user}
use Rattle.push_model.proofs.Members.{In, list_any-in, among, from_map, in-map, from_flat_map, in-flat_map}
use Rattle.push_model.proofs.Marks.{both}
use Rattle.push_model.proofs.PinsPools.{itself, contains, contained}

abbrev AllCaused : Step → Reply → List PoolStep → Type 0
AllCaused x r es = list_all (may_cause x r) es ≡ true

equal : (a b : ℕ) → (a == b) ≡ true → a ≡ b
equal a b h = grind (arith, nat_tests)

and_onward : (a b c : Bool) → (a && b) ≡ true → (b ≡ true → c ≡ true) → (a && c) ≡ true
and_onward true b c h f = f h
and_onward false b c h f = cc

caused-append : (x : Step) (r : Reply) (es fs : List PoolStep) → AllCaused x r es → AllCaused x r fs → AllCaused x r (es ++ fs)
caused-append x r [] fs h k = k
caused-append x r (e ∷ es) fs h k = and_onward (may_cause x r e) (list_all (may_cause x r) es) (list_all (may_cause x r) (es ++ fs)) h (λ g. caused-append x r es fs g k)

-- ---- Begin

take_caused : (o : Op) (t : Token) (a : AskValue) (i : MsgId) (p : Option (ℕ × ℕ)) (y : Option Channel) (w : World) (c : Cell) →
    AllCaused (Begin o t a) (Begun i p) (take_on y w a c)
take_caused o t a i p None w c = refl
take_caused o t a i p (Some y) w c = refl

taken_caused : (o : Op) (t : Token) (a : AskValue) (i : MsgId) (p : Option (ℕ × ℕ)) (e : Option (ℕ × Cell)) (w : World) →
    AllCaused (Begin o t a) (Begun i p) (take_for e w t a)
taken_caused o t a i p None w = refl
taken_caused o t a i p (Some e) w = take_caused o t a i p (find (is_token t) (channels_of e.1.user)) w e.1

at_once : (b : Bool) (i : MsgId) (x : Step) → begins_unkept x ≡ b → AllCaused x (Begun i None) (answer_at_once b i None)
at_once true i x e = rw e refl
at_once false i x e = refl

at_once_caused : (o : Op) (t : Token) (a : AskValue) (i : MsgId) (p : Option (ℕ × ℕ)) → AllCaused (Begin o t a) (Begun i p) (answer_at_once (a.terms.ttl == 0) i p)
at_once_caused o t a i (Some p) = refl
at_once_caused o t a i None = at_once (a.terms.ttl == 0) i (Begin o t a) refl

begin_caused : (w : World) (o : Op) (t : Token) (a : AskValue) (r : Reply) → AllCaused (Begin o t a) r (begin_events w t a r)
begin_caused w o t a (Begun i p) =
    caused-append (Begin o t a) (Begun i p) (take_for (find (has_token_in t) w.cells) w t a) (answer_at_once (a.terms.ttl == 0) i p)
    (taken_caused o t a i p (find (has_token_in t) w.cells) w) (at_once_caused o t a i p)
begin_caused w o t a _ = refl

-- ---- flights

answer_caused : (x : Step) (code : ℕ) (f : Option FlightRow) → is_of_flight x ≡ true → AllCaused x (End code) (answer_of f code)
answer_caused x code None e = refl
answer_caused x code (Some f) e = rw (e, itself code) refl

answer_in_caused : (x : Step) (o : Op) (code : ℕ) (e : Option (ℕ × Cell)) → is_of_flight x ≡ true → AllCaused x (End code) (answer_in e o code)
answer_in_caused x o code None h = refl
answer_in_caused x o code (Some e) h = answer_caused x code (find (is_flight o) e.1.flights) h

flight_caused : (w : World) (x : Step) (o : Op) (r : Reply) → is_of_flight x ≡ true → AllCaused x r (flight_events w o r)
flight_caused w x o (End code) h = answer_in_caused x o code (find (has_flight_in o) w.cells) h
flight_caused w x o _ h = refl

keep_caused : (o : Op) (f : Option FlightRow) → AllCaused (Store o) Stored (keep_of f)
keep_caused o None = refl
keep_caused o (Some f) = refl

keep_in_caused : (o : Op) (e : Option (ℕ × Cell)) → AllCaused (Store o) Stored (keep_in e o)
keep_in_caused o None = refl
keep_in_caused o (Some e) = keep_caused o (find (is_flight o) e.1.flights)

store_caused : (w : World) (o : Op) (r : Reply) → AllCaused (Store o) r (store_events w o r)
store_caused w o Stored = keep_in_caused o (find (has_flight_in o) w.cells)
store_caused w o (End code) = flight_caused w (Store o) o (End code) refl
store_caused w o _ = refl

-- ---- sessions

register_caused : (s : SessionKey) (k : ChannelId) (t : Token) (r : Reply) → AllCaused (Register s k t) r (register_events s.uaid k r)
register_caused s k t (Endpoint u) = rw (itself s.uaid.0, itself k.0) refl
register_caused s k t _ = refl

shown_caused : (x : Step) → is_look x ≡ true → (all ms : List MessageValue) → ((m : MessageValue) → In m ms → In m all) → AllCaused x (Page all) (map Show ms)
shown_caused x h all [] f = refl
shown_caused x h all (m ∷ ms) f =
    both (may_cause x (Page all) (Show m)) (list_all (may_cause x (Page all)) (map Show ms))
    (both (is_look x) (shows (Page all) m) h (list_any-in (λ k. k.id.number == m.id.number) m all (f m (inl refl)) (itself m.id.number)))
    (shown_caused x h all ms (λ k i. f k (inr i)))

page_caused : (x : Step) (r : Reply) → is_look x ≡ true → AllCaused x r (page_events r)
page_caused x (Page ms) h = shown_caused x h ms ms (λ m i. i)
page_caused x _ h = refl

ack_caused : (w : World) (s : SessionKey) (k : ChannelId) (i : MsgId) (r : Reply) → AllCaused (AckStep s k i) r (ack_events w i r)
ack_caused w s k i (Acked from) = by_copy (has_copy i.number w)
  where
    by_copy : (b : Bool) → AllCaused (AckStep s k i) (Acked from) (if b then Ack i.number ∷ [] else [])
    by_copy true = rw (itself i.number) refl
    by_copy false = refl
ack_caused w s k i _ = refl

unregister_caused : (s : SessionKey) (k : ChannelId) (r : Reply) → AllCaused (Unregister s k) r (unregister_events s.uaid k r)
unregister_caused s k Done = rw (itself s.uaid.0, itself k.0) refl
unregister_caused s k _ = refl

-- ---- savers, users, nodes and the clock

save_caused : (s : SessionKey) (r : Reply) → AllCaused (SaveOne s) r (save_events r)
save_caused s (Saved i) = rw (itself i.number) refl
save_caused s _ = refl

drop_caused : (x : Step) (u : Uaid) (r : Reply) → drops_user x u ≡ true → AllCaused x r (drop_events u r)
drop_caused x u Dropped h = rw h refl
drop_caused x u _ h = refl

strikes_caused : (n : ℕ) (r : Reply) (ks : List ℕ) → AllCaused (Kill n) r (map Strike ks)
strikes_caused n r [] = refl
strikes_caused n r (k ∷ ks) = strikes_caused n r ks

tick_caused : (t : ℕ) (r : Reply) → AllCaused (TickStep t) r (Tick t ∷ [])
tick_caused t r = rw (itself t) refl

-- ---- each step, and the Leaves

events_caused : (w : World) (x : Step) (r : Reply) → AllCaused x r (events w x r)
events_caused w (Begin o t a) r = begin_caused w o t a r
events_caused w (Register s k t) r = register_caused s k t r
events_caused w (TakeDirect s) r = page_caused (TakeDirect s) r refl
events_caused w (AckStep s k i) r = ack_caused w s k i r
events_caused w (FetchTopic s) r = page_caused (FetchTopic s) r refl
events_caused w (FetchPlain s) r = page_caused (FetchPlain s) r refl
events_caused w (Store o) r = store_caused w o r
events_caused w (GiveUp o) r = flight_caused w (GiveUp o) o r refl
events_caused w (Reread (OfFlight o)) r = flight_caused w (Reread (OfFlight o)) o r refl
events_caused w (Reread (OfSaver s)) r = refl
events_caused w (Heard (OfFlight o)) r = flight_caused w (Heard (OfFlight o)) o r refl
events_caused w (Heard (OfSaver s)) r = refl
events_caused w (Lost (OfFlight o)) r = flight_caused w (Lost (OfFlight o)) o r refl
events_caused w (Lost (OfSaver s)) r = refl
events_caused w (Clear (OfFlight o)) r = flight_caused w (Clear (OfFlight o)) o r refl
events_caused w (Clear (OfSaver s)) r = refl
events_caused w (SaveOne s) r = save_caused s r
events_caused w (Unregister s k) r = unregister_caused s k r
events_caused w (Expire u) r = drop_caused (Expire u) u r (itself u.0)
events_caused w (DropUser u) r = drop_caused (DropUser u) u r (itself u.0)
events_caused w (TickStep t) r = tick_caused t r
events_caused w (Kill n) r = strikes_caused n r (numbers_on n w)
events_caused w _ r = refl

leave_for_caused : (x : Step) (r : Reply) (o : Option Reason) (n : ℕ) → AllCaused x r (leave_for o n)
leave_for_caused x r None n = refl
leave_for_caused x r (Some why) n = refl

leave_if_caused : (x : Step) (r : Reply) (b : Bool) (o : Option Reason) (n : ℕ) → AllCaused x r (if b then leave_for o n else [])
leave_if_caused x r true o n = leave_for_caused x r o n
leave_if_caused x r false o n = refl

leaves_caused : (x : Step) (r : Reply) (w : World) (p : Pool) (ns : List ℕ) → AllCaused x r (leaves w p ns)
leaves_caused x r w p [] = refl
leaves_caused x r w p (n ∷ ns) =
    caused-append x r (leave_of w p n) (leaves w (after_all (leave_of w p n) p) ns) (leave_if_caused x r (is_live n p && not (has_copy n w)) (reason p n) n)
    (leaves_caused x r w (after_all (leave_of w p n) p) ns)

pub image_caused : (p : Pool) (w : World) (e : Entry Step Reply) → list_all (may_cause e.step e.reply) (image p w e) ≡ true
image_caused p w e =
    let es = events w e.step e.reply in
    let v = (step w e.step).0 in
    caused-append e.step e.reply es (leaves v (after_all es p) (numbers (after_all es p))) (events_caused w e.step e.reply)
    (leaves_caused e.step e.reply v (after_all es p) (numbers (after_all es p)))

-- ---- what a kill strikes

once_step : (k n : ℕ) (b : Bool) (ns ms : List ℕ) → list_any (λ j. j == n) ns ≡ b → (In k ns → In k ms) → In k (n ∷ ns) → In k (if b then ms else n ∷ ms)
once_step k n true ns ms e f (inl q) =
    let a = among (λ j. j == n) ns e in
    let same : a.one ≡ k = sym (q ∙ sym (equal a.one n a.passes)) in
    f (subst (λ j. In j ns) same a.member)
once_step k n true ns ms e f (inr i) = f i
once_step k n false ns ms e f (inl q) = inl q
once_step k n false ns ms e f (inr i) = inr (f i)

once_has : (k : ℕ) (ns : List ℕ) → In k ns → In k (once ns)
once_has k [] i = i
once_has k (n ∷ ns) i = once_step k n (list_any (λ j. j == n) ns) ns (once ns) refl (once_has k ns) i

once_cons : (k n : ℕ) (b : Bool) (ns ms : List ℕ) → (In k ms → In k ns) → In k (if b then ms else n ∷ ms) → In k (n ∷ ns)
once_cons k n true ns ms f i = inr (f i)
once_cons k n false ns ms f (inl q) = inl q
once_cons k n false ns ms f (inr i) = inr (f i)

once_was : (k : ℕ) (ns : List ℕ) → In k (once ns) → In k ns
once_was k [] i = i
once_was k (n ∷ ns) i = once_cons k n (list_any (λ j. j == n) ns) ns (once ns) (once_was k ns) i

abbrev all_on : ℕ → World → List MessageValue
all_on n w = flat_map (λ (e : ℕ × Cell). messages_on n e.1) w.cells

-- the message that a Strike is of, in the cell that had it
pub record StruckIn (w : World) (n k : ℕ) : Type 0 where
  pub at : ℕ × Cell
  pub cell : Contains w.cells at
  pub message : MessageValue
  pub on : Contains (messages_on n at.1) message
  pub number : message.id.number ≡ k

pub was_held : (w : World) (n k : ℕ) (r : Reply) → list_any (is_strike_of k) (events w (Kill n) r) ≡ true → StruckIn w n k
was_held w n k r h =
    let a = among (is_strike_of k) (map Strike (numbers_on n w)) h in
    let s = from_map Strike a.one (numbers_on n w) a.member in
    let same : s.0 ≡ k = equal s.0 k (subst (λ x. is_strike_of k x ≡ true) s.2 a.passes) in
    let m = from_map (λ (m : MessageValue). m.id.number) s.0 (all_on n w) (once_was s.0 (map (λ (m : MessageValue). m.id.number) (all_on n w)) s.1) in
    let e = from_flat_map (λ (e : ℕ × Cell). messages_on n e.1) m.0 w.cells m.1 in
    record { at = e.0; cell = contains e.0 w.cells e.1; message = m.0; on = contains m.0 (messages_on n e.0.1) e.2; number = sym m.2 ∙ same }

pub is_struck : (w : World) (n : ℕ) (r : Reply) (e : ℕ × Cell) (m : MessageValue) → Contains w.cells e → Contains (messages_on n e.1) m →
    list_any (is_strike_of m.id.number) (events w (Kill n) r) ≡ true
is_struck w n r e m c d =
    let there = in-flat_map (λ (e : ℕ × Cell). messages_on n e.1) m e w.cells (contained e w.cells c) (contained m (messages_on n e.1) d) in
    let numbered = in-map (λ (m : MessageValue). m.id.number) m (all_on n w) there in
    list_any-in (is_strike_of m.id.number) (Strike m.id.number) (map Strike (numbers_on n w))
    (in-map Strike m.id.number (numbers_on n w) (once_has m.id.number (map (λ (m : MessageValue). m.id.number) (all_on n w)) numbered)) (itself m.id.number)
