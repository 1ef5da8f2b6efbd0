-- What the steps of a route keep of the user to whom its message goes, so that the message is taken.
use Rattle.std.proofs.Common.{◌≡◌, ◌⊎◌, ℕ, ◌+◌, ◌<◌, ◌≤◌, ◌^◌, ◌==◌, ◌&&◌, ◌||◌, Bool, true, false, cond, inl, inr, List, [], ◌∷◌, length, filter, not, refl, ap, sym, subst, ◌∙◌, arith, Ordering, Less, Equal, Greater}
use Rattle.std.specs.Prelude.{Option, Some, None, find, is_some, max, nat_le, if◌then◌else◌}
use Rattle.std.specs.List.{list_any}
use Rattle.std.specs.Ordering.{nat_cmp, match_ordering}
use Rattle.std.specs.BTreeMap.{insert_entry}
use Rattle.std.specs.Map.{lookup, set_value, remove_entry}
use Rattle.std.proofs.lemmas.Bool.Decides.{nat_tests}
use Rattle.std.proofs.lemmas.List.Sums.{count_by-le-length, length-filter}
use Rattle.push_model.specs.declared.ids.MsgId.{MsgId}
use Rattle.push_model.specs.declared.ids.Op.{Op}
use Rattle.push_model.specs.declared.ids.Token.{Token}
use Rattle.push_model.specs.declared.ids.Uaid.{Uaid}
use Rattle.push_model.specs.declared.parts.Channel.{Channel}
use Rattle.push_model.specs.declared.parts.FlightRow.{FlightRow}
use Rattle.push_model.specs.declared.parts.Row.{Row}
use Rattle.push_model.specs.declared.standing.Stands.{Stands}
use Rattle.push_model.specs.declared.standing.Stands.TheVariants.{Same, Apart, New, Kept}
use Rattle.push_model.specs.declared.standing.Verdict.{Verdict}
use Rattle.push_model.specs.declared.standing.Verdict.TheVariants.{Stays, Older, Full, Joins}
use Rattle.push_model.specs.declared.step.Actor.TheVariants.{Flight as OfFlight}
use Rattle.push_model.specs.declared.step.Stage.{Stage}
use Rattle.push_model.specs.declared.step.Stage.TheVariants.{Direct as AtDirect, Told, Store as AtStore}
use Rattle.push_model.specs.declared.step.Step.TheVariants.{Tick, Begin, Direct, Store, Heard, Lost}
use Rattle.push_model.specs.declared.reply.Reply.{Reply}
use Rattle.push_model.specs.declared.reply.Reply.TheVariants.{IdsSpent, Begun, Here, NotHere}
use Rattle.push_model.specs.AskValue.{AskValue}
use Rattle.push_model.specs.MessageValue.{MessageValue}
use Rattle.push_model.specs.Messages.{is_expired}
use Rattle.push_model.specs.Names.{is_same_op}
use Rattle.push_model.specs.Rows.{is_row, shares_topic, stands, verdict, verdict_beside, verdict_by}
use Rattle.push_model.specs.Cells.{Cell, User, channels_of, has_token, is_channel, is_flight, is_there, is_token, routed_place, rows_of}
use Rattle.push_model.specs.ClockSteps.{ticked, without_due}
use Rattle.push_model.specs.Outcomes.{Outcome, outcome}
use Rattle.push_model.specs.FlightSteps.{answered, begin, begin_to, can_give, direct, direct_at, direct_of, flight, heard, lost, store, store_at, store_by, store_of, with_flight, with_given, with_stage}
use Rattle.push_model.specs.Sessions.{is_attached_at}
use Rattle.push_model.specs.Worlds.{World, cell_at, each, found_or_empty, has_flight_in, has_token_in, on_cell, on_flight, on_flight_of, put_beside, with_cell}
use Rattle.push_model.specs.ShardSteps.{begin_beside, begin_for, begin_on, new_message, stage_reply}
use Rattle.push_model.specs.Steps.{step}
use Rattle.push_model.specs.Reached.{IsReached}
use Rattle.push_model.proofs.Members.{In, find_in, find_passes, in-snoc, list_any-in, true_not_false}
use Rattle.push_model.proofs.Single.{none_found}
use Rattle.push_model.proofs.Entries.{at, lookup_in}
use Rattle.push_model.proofs.Narrow.{AllFlown, narrowed}
use Rattle.push_model.proofs.SameChannels.{same_without_due}
use Rattle.push_model.proofs.Reached.{reached_there}
use Rattle.endpoint_router.specs.Causes.{says_full, says_gone, says_spent}
use Rattle.http_front.specs.Admissions.{Admits}

-- ---- replies that refuse nothing

pub record IsFine (r : Reply) : Type 0 where
  pub gone : says_gone r ≡ false
  pub full : says_full r ≡ false
  pub spent : says_spent r ≡ false

pub fine : (r : Reply) → says_gone r ≡ false → says_full r ≡ false → says_spent r ≡ false → IsFine r
fine r g f s = record { gone = g; full = f; spent = s }

fine_if : (b : Bool) (m n : Outcome) → IsFine m.reply → IsFine n.reply → IsFine (if b then m else n).reply
fine_if true m n h k = h
fine_if false m n h k = k

-- ---- a Tick

fewer : (p : Row → Bool) (rows : List Row) → length (filter p rows) ≤ length rows
fewer p rows = omega (arith, length-filter p rows, count_by-le-length p rows)

ticked_fewer : (moment : ℕ) (o : Option User) → length (rows_of (without_due moment o)) ≤ length (rows_of o)
ticked_fewer moment None = omega arith
ticked_fewer moment (Some u) = fewer (λ r. not (is_expired moment r.message)) u.rows

ticked_token : (t : Token) (moment : ℕ) (c : Cell) → list_any (is_token t) (channels_of (ticked moment c).user) ≡ list_any (is_token t) (channels_of c.user)
ticked_token t moment c = ap (list_any (is_token t)) (same_without_due moment c.user)

each_cons : (f : Cell → Cell) (b c : Bool) (d e : ℕ × Cell) (o q : Option (ℕ × Cell)) → c ≡ b → cond b (Some d) o ≡ Some e →
    (o ≡ Some e → q ≡ Some (e.0, f e.1)) → cond c (Some (d.0, f d.1)) q ≡ Some (e.0, f e.1)
each_cons f true true d e o q s h g = let same : d ≡ e = cc in ap (λ (z : ℕ × Cell). Some (z.0, f z.1)) same
each_cons f true false d e o q s h g = absurd (true_not_false (sym s))
each_cons f false true d e o q s h g = absurd (true_not_false s)
each_cons f false false d e o q s h g = g h

-- what is found is found where each cell has changed
find_each : (t : Token) (moment : ℕ) (es : List (ℕ × Cell)) (e : ℕ × Cell) → find (has_token_in t) es ≡ Some e →
    find (has_token_in t) (each (ticked moment) es) ≡ Some (e.0, ticked moment e.1)
find_each t moment [] e h = cc
find_each t moment (d ∷ es) e h =
    each_cons (ticked moment) (has_token_in t d) (has_token_in t (d.0, ticked moment d.1)) d e (find (has_token_in t) es) (find (has_token_in t) (each (ticked moment) es))
    (ticked_token t moment d.1) h (find_each t moment es e)

pub admits_tick : (t : Token) (w : World) (now : ℕ) → Admits t w → Admits t (step w (Tick now)).0
admits_tick t w now h =
    let less : length (rows_of (without_due (max w.clock now) h.owner.1.user)) ≤ length (rows_of h.owner.1.user) = ticked_fewer (max w.clock now) h.owner.1.user in
    let few : length (rows_of h.owner.1.user) < 1000 = h.few in
    record {
      owner = (h.owner.0, ticked (max w.clock now) h.owner.1);
      found = find_each t (max w.clock now) w.cells h.owner h.found;
      few = omega (arith, less, few);
      numbers = h.numbers;
    }

-- ---- the cells that have a flight

-- the user of the cell has the channel of each flight of that name, and fewer than 1,000 rows
abbrev pub Fits : Op → Cell → Type 0
Fits o c = (f : FlightRow) → In f c.flights → is_flight o f ≡ true → (has_token f.message.chid f.token c.user ≡ true) × (length (rows_of c.user) < 1000)

abbrev pub AllFit : Op → List (ℕ × Cell) → Type 0
AllFit o es = (e : ℕ × Cell) → In e es → Fits o e.1

-- where a cell is put, each is an old one or that one

set_cons : (v : Cell) (b : Bool) (d e : ℕ × Cell) (es fs : List (ℕ × Cell)) → (In e fs → In e es ⊎ (e.1 ≡ v)) → In e (cond b ((d.0, v) ∷ es) (d ∷ fs)) →
    In e (d ∷ es) ⊎ (e.1 ≡ v)
set_cons v true d e es fs f (inl q) = inr (ap (λ (x : ℕ × Cell). x.1) q)
set_cons v true d e es fs f (inr i) = inl (inr i)
set_cons v false d e es fs f (inl q) = inl (inl q)
set_cons v false d e es fs f (inr i) = elim (f i) [ inl j ↦ inl (inr j) | inr j ↦ inr j ]

from_set : (n : ℕ) (v : Cell) (e : ℕ × Cell) (es : List (ℕ × Cell)) → In e (set_value (at n) es v) → In e es ⊎ (e.1 ≡ v)
from_set n v e [] i = elim i [ ]
from_set n v e (d ∷ es) i = set_cons v (at n d.0) d e es (set_value (at n) es v) (from_set n v e es) i

insert_cons : (n : ℕ) (v : Cell) (o : Ordering) (d e : ℕ × Cell) (es fs : List (ℕ × Cell)) → (In e fs → In e es ⊎ (e.1 ≡ v)) →
    In e (match_ordering o ((n, v) ∷ d ∷ es) ((d.0, v) ∷ es) (d ∷ fs)) → In e (d ∷ es) ⊎ (e.1 ≡ v)
insert_cons n v Less d e es fs f (inl q) = inr (ap (λ (x : ℕ × Cell). x.1) q)
insert_cons n v Less d e es fs f (inr i) = inl i
insert_cons n v Equal d e es fs f (inl q) = inr (ap (λ (x : ℕ × Cell). x.1) q)
insert_cons n v Equal d e es fs f (inr i) = inl (inr i)
insert_cons n v Greater d e es fs f (inl q) = inl (inl q)
insert_cons n v Greater d e es fs f (inr i) = elim (f i) [ inl j ↦ inl (inr j) | inr j ↦ inr j ]

from_insert : (n : ℕ) (v : Cell) (e : ℕ × Cell) (es : List (ℕ × Cell)) → In e (insert_entry nat_cmp es n v) → In e es ⊎ (e.1 ≡ v)
from_insert n v e [] (inl q) = inr (ap (λ (x : ℕ × Cell). x.1) q)
from_insert n v e [] (inr i) = elim i [ ]
from_insert n v e (d ∷ es) i = insert_cons n v (nat_cmp n d.0) d e es (insert_entry nat_cmp es n v) (from_insert n v e es) i

remove_cons : (b : Bool) (d e : ℕ × Cell) (es fs : List (ℕ × Cell)) → (In e fs → In e es) → In e (cond b es (d ∷ fs)) → In e (d ∷ es)
remove_cons true d e es fs f i = inr i
remove_cons false d e es fs f (inl q) = inl q
remove_cons false d e es fs f (inr i) = inr (f i)

from_remove : (n : ℕ) (e : ℕ × Cell) (es : List (ℕ × Cell)) → In e (remove_entry (at n) es) → In e es
from_remove n e [] i = elim i [ ]
from_remove n e (d ∷ es) i = remove_cons (at n d.0) d e es (remove_entry (at n) es) (from_remove n e es) i

from_beside : (u : Uaid) (v : Cell) (e : ℕ × Cell) (es : List (ℕ × Cell)) (l : Option Cell) → In e (put_beside l u v es) → In e es ⊎ (e.1 ≡ v)
from_beside u v e es None i = from_insert u.0 v e es i
from_beside u v e es (Some c) i = from_set u.0 v e es i

from_put : (u : Uaid) (v : Cell) (e : ℕ × Cell) (es : List (ℕ × Cell)) (l : Option Cell) (b : Bool) →
    In e (if b then put_beside l u v es else remove_entry (at u.0) es) → In e es ⊎ (e.1 ≡ v)
from_put u v e es l true i = from_beside u v e es l i
from_put u v e es l false i = inl (from_remove u.0 e es i)

fits_put : (o : Op) (u : Uaid) (v : Cell) (es : List (ℕ × Cell)) → AllFit o es → Fits o v → AllFit o (with_cell u v es)
fits_put o u v es h k e i =
    elim (from_put u v e es (lookup (at u.0) es) (is_there v) i) [ inl j ↦ h e j | inr q ↦ subst (Fits o) (sym q) k ]

-- the cell of a user is one of them, or has no flight
fits_found : (o : Op) (u : Uaid) (es : List (ℕ × Cell)) (l : Option Cell) → lookup (at u.0) es ≡ l → AllFit o es → Fits o (found_or_empty l u)
fits_found o u es None q h = λ f i p. elim i [ ]
fits_found o u es (Some c) q h = let e = lookup_in u.0 es c q in subst (Fits o) e.3 (h e.0 e.1)

fits_at : (o : Op) (u : Uaid) (es : List (ℕ × Cell)) → AllFit o es → Fits o (cell_at es u)
fits_at o u es h = fits_found o u es (lookup (at u.0) es) refl h

-- ---- steps of the flight

fits_entry : (o : Op) (w : World) (run : Cell → Outcome) (e : Option (ℕ × Cell)) → AllFit o w.cells → ((c : Cell) → Fits o c → Fits o (run c).cell) →
    AllFit o (on_flight_of e w run).0.cells
fits_entry o w run None h g = h
fits_entry o w run (Some e) h g = fits_put o e.1.uaid (run (cell_at w.cells e.1.uaid)).cell w.cells h (g (cell_at w.cells e.1.uaid) (fits_at o e.1.uaid w.cells h))

fits_flight : (o : Op) (w : World) (run : Cell → Outcome) → AllFit o w.cells → ((c : Cell) → Fits o c → Fits o (run c).cell) → AllFit o (on_flight w o run).0.cells
fits_flight o w run h g = fits_entry o w run (find (has_flight_in o) w.cells) h g

-- it keeps what it found, where it leaves the user and no more than moves flights
fits_kept : (o : Op) (c v : Cell) → v.user ≡ c.user → AllFlown c.flights v.flights → Fits o c → Fits o v
fits_kept o c v e fl h f i p =
    let was = fl f i in
    let k = h was.flight was.member (subst (λ z. is_same_op z o ≡ true) was.op p) in (
      subst (λ (m : MessageValue). has_token m.chid f.token v.user ≡ true) (sym was.message)
          (subst (λ t. has_token was.flight.message.chid t v.user ≡ true) (sym was.token)
          (subst (λ u. has_token was.flight.message.chid was.flight.token u ≡ true) (sym e) k.0)),
      subst (λ u. length (rows_of u) < 1000) (sym e) k.1,
    )

given_user : (b : Bool) (n : ℕ) (o : Op) (f : FlightRow) (c : Cell) →
    (if b then outcome (with_stage o (Told true) (with_given n f.message c)) (Here c.uaid) else outcome (with_stage o (Told false) c) NotHere).cell.user ≡ c.user
given_user true n o f c = refl
given_user false n o f c = refl

direct_user_at : (stage : Stage) (moment : ℕ) (o : Op) (f : FlightRow) (c : Cell) → (direct_at stage moment o f c).cell.user ≡ c.user
direct_user_at (AtDirect n a) moment o f c = given_user (can_give (find (is_attached_at n) c.sessions) moment f c.user) n o f c
direct_user_at _ moment o f c = refl

direct_user : (f : Option FlightRow) (moment : ℕ) (o : Op) (c : Cell) → (direct_of f moment o c).cell.user ≡ c.user
direct_user None moment o c = refl
direct_user (Some f) moment o c = direct_user_at f.stage moment o f c

pub fits_direct : (o : Op) (w : World) → AllFit o w.cells → AllFit o (step w (Direct o)).0.cells
fits_direct o w h = fits_flight o w (direct w.clock o) h
    (λ c k. fits_kept o c (direct w.clock o c).cell (direct_user (flight o c) w.clock o c) (narrowed w.clock (Direct o) c (direct w.clock o c) refl).flights k)

pub fits_heard : (o : Op) (w : World) → AllFit o w.cells → AllFit o (step w (Heard (OfFlight o))).0.cells
fits_heard o w h = fits_flight o w (heard o) h (λ c k. fits_kept o c (heard o c).cell refl (narrowed w.clock (Heard (OfFlight o)) c (heard o c) refl).flights k)

pub fits_lost : (o : Op) (w : World) → AllFit o w.cells → AllFit o (step w (Lost (OfFlight o))).0.cells
fits_lost o w h = fits_flight o w (lost o) h (λ c k. fits_kept o c (lost o c).cell refl (narrowed w.clock (Lost (OfFlight o)) c (lost o c) refl).flights k)

-- ---- Store finds the channel and room

full_not : (b : Bool) (rows : List Row) → nat_le 1000 (length rows) ≡ b → length rows < 1000 → (if b then Full else Joins) ≡ Full → ⊥
full_not true rows e low q = grind (arith, nat_tests, e, low)
full_not false rows e low q = cc

stood_not : (s : Stands) → verdict_by s ≡ Full → ⊥
stood_not Same q = cc
stood_not Apart q = cc
stood_not New q = cc
stood_not Kept q = cc

beside_not : (o : Option Row) (m : MessageValue) (rows : List Row) → length rows < 1000 → verdict_beside o m rows ≡ Full → ⊥
beside_not None m rows low q = full_not (nat_le 1000 (length rows)) rows refl low q
beside_not (Some r) m rows low q = stood_not (stands m r.message) q

very_not : (b : Bool) (o : Option Row) (m : MessageValue) (rows : List Row) → length rows < 1000 → (if b then Stays else verdict_beside o m rows) ≡ Full → ⊥
very_not true o m rows low q = cc
very_not false o m rows low q = beside_not o m rows low q

not_full : (m : MessageValue) (rows : List Row) → length rows < 1000 → verdict m rows ≡ Full → ⊥
not_full m rows low q = very_not (list_any (is_row m.id) rows) (find (shares_topic m) rows) m rows low q

store_by_fine : (d : Verdict) (o : Op) (m : MessageValue) (c : Cell) → (d ≡ Full → ⊥) → IsFine (store_by d o m c).reply
store_by_fine Stays o m c n = fine _ refl refl refl
store_by_fine Older o m c n = fine _ refl refl refl
store_by_fine Full o m c n = absurd (n refl)
store_by_fine Joins o m c n = fine _ refl refl refl

has_fine : (b : Bool) (m n : Outcome) → b ≡ true → IsFine m.reply → IsFine (if b then m else n).reply
has_fine true m n e h = h
has_fine false m n e h = absurd (true_not_false (sym e))

store_fine_at : (stage : Stage) (moment : ℕ) (o : Op) (f : FlightRow) (c : Cell) → has_token f.message.chid f.token c.user ≡ true → length (rows_of c.user) < 1000 →
    IsFine (store_at stage moment o f c).reply
store_fine_at AtStore moment o f c e low =
    has_fine (has_token f.message.chid f.token c.user) (if is_expired moment f.message then answered 201 o c else store_by (verdict f.message (rows_of c.user)) o f.message c) (answered 410 o c) e
    (fine_if (is_expired moment f.message) (answered 201 o c) (store_by (verdict f.message (rows_of c.user)) o f.message c) (fine _ refl refl refl)
    (store_by_fine (verdict f.message (rows_of c.user)) o f.message c (not_full f.message (rows_of c.user) low)))
store_fine_at _ moment o f c e low = fine _ refl refl refl

store_fine_of : (g : Option FlightRow) (moment : ℕ) (o : Op) (c : Cell) → flight o c ≡ g → Fits o c → IsFine (store_of g moment o c).reply
store_fine_of None moment o c e h = fine _ refl refl refl
store_fine_of (Some f) moment o c e h =
    let k = h f (find_in (is_flight o) f c.flights e) (find_passes (is_flight o) f c.flights e) in
    store_fine_at f.stage moment o f c k.0 k.1

store_fine_entry : (o : Op) (w : World) (e : Option (ℕ × Cell)) → AllFit o w.cells → IsFine (on_flight_of e w (store w.clock o)).1
store_fine_entry o w None h = fine _ refl refl refl
store_fine_entry o w (Some e) h =
    let c = cell_at w.cells e.1.uaid in
    store_fine_of (flight o c) w.clock o c refl (fits_at o e.1.uaid w.cells h)

pub store_fine : (o : Op) (w : World) → AllFit o w.cells → IsFine (step w (Store o)).1
store_fine o w h = store_fine_entry o w (find (has_flight_in o) w.cells) h

-- ---- Begin finds the channel, and a number is left

staged_fine : (f : Option FlightRow) → IsFine (stage_reply f)
staged_fine None = fine _ refl refl refl
staged_fine (Some f) = fine _ refl refl refl

unrouted_fine : (b : Bool) (o : Op) (t : Token) (m : MessageValue) (c : Cell) →
    IsFine (if b then outcome c (Begun m.id None) else outcome (with_flight o t m AtStore c) (Begun m.id None)).reply
unrouted_fine b o t m c = fine_if b (outcome c (Begun m.id None)) (outcome (with_flight o t m AtStore c) (Begun m.id None)) (fine _ refl refl refl) (fine _ refl refl refl)

begin_fine_to : (place : Option (ℕ × ℕ)) (o : Op) (t : Token) (m : MessageValue) (c : Cell) → IsFine (begin_to place o t m c).reply
begin_fine_to (Some p) o t m c = fine _ refl refl refl
begin_fine_to None o t m c = unrouted_fine (m.ask.terms.ttl == 0) o t m c

numbered_fine : (b : Bool) (w : World) (u : Uaid) (run : Cell → Outcome) → (w.next == 2 ^ 63) ≡ b → w.next < 2 ^ 63 → ((c : Cell) → IsFine (run c).reply) →
    IsFine (if b then (w, IdsSpent) else on_cell (record w { next = w.next + 1 }) u run).1
numbered_fine true w u run e low g = absurd (grind (arith, nat_tests, e, low))
numbered_fine false w u run e low g = g (cell_at w.cells u)

channel_fine : (y : Option Channel) (w : World) (o : Op) (t : Token) (a : AskValue) (c : Cell) → is_some y ≡ true → w.next < 2 ^ 63 → IsFine (begin_on y w o t a c).1
channel_fine None w o t a c e low = absurd (true_not_false (sym e))
channel_fine (Some y) w o t a c e low =
    let m = new_message w c y.chid a in
    numbered_fine (w.next == 2 ^ 63) w c.uaid (begin o t m) refl low (λ d. begin_fine_to (routed_place d.user) o t m d)

any_cons : (b : Bool) (y : Channel) (l : Bool) (o : Option Channel) → l ≡ is_some o → (b || l) ≡ is_some (cond b (Some y) o)
any_cons true y l o e = refl
any_cons false y l o e = e

any_found : (p : Channel → Bool) (ys : List Channel) → list_any p ys ≡ is_some (find p ys)
any_found p [] = refl
any_found p (y ∷ ys) = any_cons (p y) y (list_any p ys) (find p ys) (any_found p ys)

owner_has : (t : Token) (w : World) (h : Admits t w) → is_some (find (is_token t) (channels_of h.owner.1.user)) ≡ true
owner_has t w h = sym (any_found (is_token t) (channels_of h.owner.1.user)) ∙ find_passes (has_token_in t) h.owner w.cells h.found

beside_fine : (e : Option (ℕ × Cell)) (w : World) (o : Op) (t : Token) (a : AskValue) → Admits t w → IsFine (begin_beside e w o t a).1
beside_fine (Some e) w o t a h = staged_fine (find (is_flight o) e.1.flights)
beside_fine None w o t a h =
    subst (λ z. IsFine (begin_for z w o t a).1) (sym h.found) (channel_fine (find (is_token t) (channels_of h.owner.1.user)) w o t a h.owner.1 (owner_has t w h) h.numbers)

pub begin_fine : (o : Op) (t : Token) (a : AskValue) (w : World) → Admits t w → IsFine (step w (Begin o t a)).1
begin_fine o t a w h = beside_fine (find (has_flight_in o) w.cells) w o t a h

-- ---- what a Begin leaves

-- no cell has a flight of that name
abbrev NoneFly : Op → List (ℕ × Cell) → Type 0
NoneFly o es = (e : ℕ × Cell) → In e es → (f : FlightRow) → In f e.1.flights → is_flight o f ≡ true → ⊥

none_fly : (o : Op) (es : List (ℕ × Cell)) → find (has_flight_in o) es ≡ None → NoneFly o es
none_fly o es h e i f j p = true_not_false (sym (list_any-in (is_flight o) f e.1.flights j p) ∙ none_found (has_flight_in o) es h e i)

none_fit : (o : Op) (es : List (ℕ × Cell)) → NoneFly o es → AllFit o es
none_fit o es h e i f j p = absurd (h e i f j p)

itself : (y : Channel) → is_channel y.chid y ≡ true
itself y = grind (arith, nat_tests)

both : (a b : Bool) → a ≡ true → b ≡ true → (a && b) ≡ true
both true b e h = h
both false b e h = absurd (true_not_false (sym e))

named : (t : Token) (y : Channel) (c : Cell) → In y (channels_of c.user) → is_token t y ≡ true → has_token y.chid t c.user ≡ true
named t y c i p = list_any-in (λ x. is_channel y.chid x && is_token t x) y (channels_of c.user) i (both (is_channel y.chid y) (is_token t y) (itself y) p)

-- the flight that was begun, behind others that are of another name
new_fits : (o : Op) (t : Token) (m : MessageValue) (s : Stage) (c : Cell) → ((f : FlightRow) → In f c.flights → is_flight o f ≡ true → ⊥) → has_token m.chid t c.user ≡ true →
    length (rows_of c.user) < 1000 → Fits o (with_flight o t m s c)
new_fits o t m s c none e low f i p = elim (in-snoc f (record { op = o; message = m; token = t; stage = s }) c.flights i) [
  | inl j ↦ absurd (none f j p)
  | inr q ↦ (subst (λ (g : FlightRow). has_token g.message.chid g.token c.user ≡ true) (sym q) e, low)
]

unrouted_fits : (b : Bool) (o : Op) (t : Token) (m : MessageValue) (c : Cell) → Fits o c → Fits o (with_flight o t m AtStore c) →
    Fits o (if b then outcome c (Begun m.id None) else outcome (with_flight o t m AtStore c) (Begun m.id None)).cell
unrouted_fits true o t m c h k = h
unrouted_fits false o t m c h k = k

begin_fits_to : (place : Option (ℕ × ℕ)) (o : Op) (t : Token) (m : MessageValue) (c : Cell) → ((f : FlightRow) → In f c.flights → is_flight o f ≡ true → ⊥) →
    has_token m.chid t c.user ≡ true → length (rows_of c.user) < 1000 → Fits o (begin_to place o t m c).cell
begin_fits_to (Some p) o t m c none e low = new_fits o t m (AtDirect p.0 p.1) c none e low
begin_fits_to None o t m c none e low = unrouted_fits (m.ask.terms.ttl == 0) o t m c (λ f i p. absurd (none f i p)) (new_fits o t m AtStore c none e low)

numbered_fits : (b : Bool) (o : Op) (w : World) (u : Uaid) (run : Cell → Outcome) → AllFit o w.cells → Fits o (run (cell_at w.cells u)).cell →
    AllFit o (if b then (w, IdsSpent) else on_cell (record w { next = w.next + 1 }) u run).0.cells
numbered_fits true o w u run h k = h
numbered_fits false o w u run h k = fits_put o u (run (cell_at w.cells u)).cell w.cells h k

channel_fits : (y : Option Channel) (w : World) (o : Op) (t : Token) (a : AskValue) (e : ℕ × Cell) → find (is_token t) (channels_of e.1.user) ≡ y → NoneFly o w.cells → In e w.cells →
    cell_at w.cells e.1.uaid ≡ e.1 → length (rows_of e.1.user) < 1000 → AllFit o (begin_on y w o t a e.1).0.cells
channel_fits None w o t a e q none i same low = none_fit o w.cells none
channel_fits (Some y) w o t a e q none i same low =
    let m = new_message w e.1 y.chid a in
    let has = named t y e.1 (find_in (is_token t) y (channels_of e.1.user) q) (find_passes (is_token t) y (channels_of e.1.user) q) in
    numbered_fits (w.next == 2 ^ 63) o w e.1.uaid (begin o t m) (none_fit o w.cells none)
    (subst (λ c. Fits o (begin o t m c).cell) (sym same) (begin_fits_to (routed_place e.1.user) o t m e.1 (none e i) has low))

staged_not : (f : Option FlightRow) (i : MsgId) (place : Option (ℕ × ℕ)) → stage_reply f ≡ Begun i place → ⊥
staged_not None i place q = cc
staged_not (Some f) i place q = cc

beside_fits : (g : Option (ℕ × Cell)) (w : World) (o : Op) (t : Token) (a : AskValue) (i : MsgId) (place : Option (ℕ × ℕ)) → find (has_flight_in o) w.cells ≡ g → IsReached w → Admits t w →
    (begin_beside g w o t a).1 ≡ Begun i place → AllFit o (begin_beside g w o t a).0.cells
beside_fits (Some g) w o t a i place q r h said = absurd (staged_not (find (is_flight o) g.1.flights) i place said)
beside_fits None w o t a i place q r h said =
    let e = h.owner in
    let there = find_in (has_token_in t) e w.cells h.found in
    let same : cell_at w.cells e.1.uaid ≡ e.1 = ap (λ x. found_or_empty x e.1.uaid) (reached_there w e r there) in
    subst (λ z. AllFit o (begin_for z w o t a).0.cells) (sym h.found)
    (channel_fits (find (is_token t) (channels_of e.1.user)) w o t a e refl (none_fly o w.cells q) there same h.few)

pub fits_begin : (o : Op) (t : Token) (a : AskValue) (w : World) (i : MsgId) (place : Option (ℕ × ℕ)) → IsReached w → Admits t w → (step w (Begin o t a)).1 ≡ Begun i place →
    AllFit o (step w (Begin o t a)).0.cells
fits_begin o t a w i place r h said = beside_fits (find (has_flight_in o) w.cells) w o t a i place refl r h said
