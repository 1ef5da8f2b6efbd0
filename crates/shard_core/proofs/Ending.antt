-- A step on one user keeps each flight of the user's cell, but for the one that the reply says has ended.
use Rattle.std.proofs.Common.{◌≡◌, ℕ, Bool, true, false, cond, ◌||◌, ◌⊎◌, inl, inr, List, [], ◌∷◌, refl, ◌∙◌, ap, sym, subst, arith}
use Rattle.std.specs.Prelude.{Option, Some, None, is_some, find, if◌then◌else◌}
use Rattle.std.specs.List.{list_any}
use Rattle.std.proofs.lemmas.Bool.Decides.{nat_tests}
use Rattle.push_model.specs.declared.ids.Op.{Op}
use Rattle.push_model.specs.declared.parts.FlightRow.{FlightRow}
use Rattle.push_model.specs.declared.advance.Advance.{Advance}
use Rattle.push_model.specs.declared.advance.Advance.TheVariants.{Moved as Goes, End as Ends, Out, Absent}
use Rattle.push_model.specs.declared.advance.Event.TheVariants.{Heard as HeardOf, Lost as LostOf, GiveUp as GivenUp, Read as ReadPlace}
use Rattle.push_model.specs.declared.standing.Verdict.{Verdict}
use Rattle.push_model.specs.declared.standing.Verdict.TheVariants.{Stays, Older, Full, Joins}
use Rattle.push_model.specs.declared.step.Actor.TheVariants.{Flight as OfFlight, Saver as OfSaver}
use Rattle.push_model.specs.declared.step.Stage.{Stage}
use Rattle.push_model.specs.declared.step.Stage.TheVariants.{Direct as AtDirect, Told, Store as AtStore, Reread as AtReread, Nudge as AtNudge, ToldNudge as AtToldNudge, Clear as AtClear}
use Rattle.push_model.specs.declared.step.Step.{Step}
use Rattle.push_model.specs.declared.step.Step.TheVariants.{Direct, Store, GiveUp, Reread, Nudge, Heard, Lost, Clear}
use Rattle.push_model.specs.declared.reply.Reply.TheVariants.{NoFlight}
use Rattle.push_model.specs.Names.{is_same_op}
use Rattle.push_model.specs.Messages.{is_expired}
use Rattle.push_model.specs.MessageValue.{MessageValue}
use Rattle.push_model.specs.Keyed.{with_first, without_first}
use Rattle.push_model.specs.Rows.{verdict}
use Rattle.push_model.specs.Sessions.{Session, is_attached_at}
use Rattle.push_model.specs.Cells.{Cell, has_token, is_flight, routed_place, rows_of}
use Rattle.push_model.specs.Advances.{advance_of, at_stage}
use Rattle.push_model.specs.Outcomes.{Outcome, advance_reply, outcome, read_reply}
use Rattle.push_model.specs.FlightSteps.{flight, moved_on, can_give, direct, direct_at, direct_of, store, store_at, store_by, store_message, store_of, give_up, heard, lost, reread, nudge, nudge_at, nudge_of, nudge_to, clear, clear_at, clear_of}
use Rattle.push_model.specs.Steps.{Action, OnUser, OnFlight, OnShard, Does, action}
use Rattle.push_model.proofs.Framed.{advanced_other}
use Rattle.push_model.proofs.Narrow.{Walked, walked}
use Rattle.shard_core.specs.Owners.{ended, flight_of, has_flight, is_end}
use Rattle.shard_core.proofs.Values.{any_found}

-- ---- the flights of a cell

with_cons : (k : Op) (t : Stage) (b : Bool) (x : FlightRow) (xs ys : List FlightRow) → list_any (is_flight k) ys ≡ list_any (is_flight k) xs →
    list_any (is_flight k) (cond b (at_stage t x ∷ xs) (x ∷ ys)) ≡ list_any (is_flight k) (x ∷ xs)
with_cons k t true x xs ys e = refl
with_cons k t false x xs ys e = ap (λ b. is_flight k x || b) e

-- a flight keeps its name at another stage
any_with : (o k : Op) (t : Stage) (xs : List FlightRow) →
    list_any (is_flight k) (with_first (is_flight o) (at_stage t) xs) ≡ list_any (is_flight k) xs
any_with o k t [] = refl
any_with o k t (x ∷ xs) = with_cons k t (is_flight o x) x xs (with_first (is_flight o) (at_stage t) xs) (any_with o k t xs)

-- the others stay where one goes
any_without : (o k : Op) (xs : List FlightRow) → is_same_op o k ≡ false →
    list_any (is_flight k) (without_first (is_flight o) xs) ≡ list_any (is_flight k) xs
any_without o k xs ne =
    any_found (is_flight k) (without_first (is_flight o) xs) ∙ ap is_some (advanced_other k o (Ends 0) xs ne) ∙ sym (any_found (is_flight k) xs)

-- ---- what a step of the flight o leaves

-- All flights stay; or the reply says that one ended, and all but o stay.
data Keeps (o : Op) (c : Cell) (m : Outcome) : Type 0 where
  All : (all : (k : Op) → has_flight k m.cell ≡ has_flight k c) → Keeps o c m
  Others : (end : is_end m.reply ≡ true) → (others : (k : Op) → is_same_op o k ≡ false → has_flight k m.cell ≡ has_flight k c) → Keeps o c m

stays : {o : Op} {c : Cell} {m : Outcome} → m.cell.flights ≡ c.flights → Keeps o c m
stays e = All (λ k. ap (list_any (is_flight k)) e)

moves : {o : Op} {c : Cell} {m : Outcome} (t : Stage) → m.cell.flights ≡ with_first (is_flight o) (at_stage t) c.flights → Keeps o c m
moves {o = o} {c = c} t e = All (λ k. ap (list_any (is_flight k)) e ∙ any_with o k t c.flights)

ends : {o : Op} {c : Cell} {m : Outcome} → m.cell.flights ≡ without_first (is_flight o) c.flights → is_end m.reply ≡ true → Keeps o c m
ends {o = o} {c = c} e r = Others r (λ k ne. ap (list_any (is_flight k)) e ∙ any_without o k c.flights ne)

one_of : {o : Op} {c : Cell} {m n : Outcome} (b : Bool) → Keeps o c m → Keeps o c n → Keeps o c (if b then m else n)
one_of true h k = h
one_of false h k = k

-- ---- Heard, Lost, GiveUp and Reread

event_keeps : (a : Advance) (o : Op) (c : Cell) → Keeps o c (outcome (moved_on a o c) (advance_reply a NoFlight))
event_keeps (Goes t) o c = moves t refl
event_keeps (Ends code) o c = ends refl refl
event_keeps (Out t) o c = stays refl
event_keeps Absent o c = stays refl

read_keeps : (a : Advance) (o : Op) (c : Cell) → Keeps o c (outcome (moved_on a o c) (read_reply a NoFlight))
read_keeps (Goes t) o c = moves t refl
read_keeps (Ends code) o c = ends refl refl
read_keeps (Out t) o c = stays refl
read_keeps Absent o c = stays refl

-- ---- Direct

direct_at_keeps : (stage : Stage) (moment : ℕ) (o : Op) (f : FlightRow) (c : Cell) → Keeps o c (direct_at stage moment o f c)
direct_at_keeps (AtDirect n a) moment o f c =
    one_of (can_give (find (is_attached_at n) c.sessions) moment f c.user) (moves (Told true) refl) (moves (Told false) refl)
direct_at_keeps _ moment o f c = stays refl

direct_of_keeps : (f : Option FlightRow) (moment : ℕ) (o : Op) (c : Cell) → Keeps o c (direct_of f moment o c)
direct_of_keeps None moment o c = stays refl
direct_of_keeps (Some f) moment o c = direct_at_keeps f.stage moment o f c

-- ---- Store

store_by_keeps : (d : Verdict) (o : Op) (m : MessageValue) (c : Cell) → Keeps o c (store_by d o m c)
store_by_keeps Stays o m c = moves AtReread refl
store_by_keeps Older o m c = ends refl refl
store_by_keeps Full o m c = ends refl refl
store_by_keeps Joins o m c = moves AtReread refl

store_at_keeps : (stage : Stage) (moment : ℕ) (o : Op) (f : FlightRow) (c : Cell) → Keeps o c (store_at stage moment o f c)
store_at_keeps AtStore moment o f c =
    one_of (has_token f.message.chid f.token c.user)
    (one_of (is_expired moment f.message) (ends refl refl) (store_by_keeps (verdict f.message (rows_of c.user)) o f.message c)) (ends refl refl)
store_at_keeps _ moment o f c = stays refl

store_of_keeps : (f : Option FlightRow) (moment : ℕ) (o : Op) (c : Cell) → Keeps o c (store_of f moment o c)
store_of_keeps None moment o c = stays refl
store_of_keeps (Some f) moment o c = store_at_keeps f.stage moment o f c

-- ---- Nudge

nudge_to_keeps : (x : Option Session) (n a : ℕ) (o : Op) (c : Cell) → Keeps o c (nudge_to x n a o c)
nudge_to_keeps None n a o c = moves (AtToldNudge false n a) refl
nudge_to_keeps (Some x) n a o c = moves (AtToldNudge true n a) refl

nudge_at_keeps : (stage : Stage) (o : Op) (c : Cell) → Keeps o c (nudge_at stage o c)
nudge_at_keeps (AtNudge n a) o c = nudge_to_keeps (find (is_attached_at n) c.sessions) n a o c
nudge_at_keeps _ o c = stays refl

nudge_of_keeps : (f : Option FlightRow) (o : Op) (c : Cell) → Keeps o c (nudge_of f o c)
nudge_of_keeps None o c = stays refl
nudge_of_keeps (Some f) o c = nudge_at_keeps f.stage o c

-- ---- Clear

clear_at_keeps : (stage : Stage) (o : Op) (c : Cell) → Keeps o c (clear_at stage o c)
clear_at_keeps (AtClear n a) o c = ends refl refl
clear_at_keeps _ o c = stays refl

clear_of_keeps : (f : Option FlightRow) (o : Op) (c : Cell) → Keeps o c (clear_of f o c)
clear_of_keeps None o c = stays refl
clear_of_keeps (Some f) o c = clear_at_keeps f.stage o c

-- ---- each step, by whose it is

abbrev KeptBy : Action → Cell → Type 0
KeptBy (OnUser u f) c = Unit {0}
KeptBy (OnFlight o f) c = Keeps o c (f c)
KeptBy (OnShard f) c = Unit {0}

kept_by : (moment : ℕ) (x : Step) (c : Cell) → KeptBy (action moment x) c
kept_by moment (Direct o) c = direct_of_keeps (flight o c) moment o c
kept_by moment (Store o) c = store_of_keeps (flight o c) moment o c
kept_by moment (GiveUp o) c = event_keeps (advance_of GivenUp (flight o c)) o c
kept_by moment (Reread (OfFlight o)) c = read_keeps (advance_of (ReadPlace (routed_place c.user)) (flight o c)) o c
kept_by moment (Reread (OfSaver s)) c = tt
kept_by moment (Nudge (OfFlight o)) c = nudge_of_keeps (flight o c) o c
kept_by moment (Nudge (OfSaver s)) c = tt
kept_by moment (Heard (OfFlight o)) c = event_keeps (advance_of HeardOf (flight o c)) o c
kept_by moment (Heard (OfSaver s)) c = tt
kept_by moment (Lost (OfFlight o)) c = event_keeps (advance_of LostOf (flight o c)) o c
kept_by moment (Lost (OfSaver s)) c = tt
kept_by moment (Clear (OfFlight o)) c = clear_of_keeps (flight o c) o c
kept_by moment (Clear (OfSaver s)) c = tt
kept_by moment _ c = tt

-- whose it is doesn't hang on the moment
flight_of_any : (moment : ℕ) (x : Step) → flight_of (action moment x) ≡ flight_of (action 0 x)
flight_of_any moment (Reread (OfFlight o)) = refl
flight_of_any moment (Reread (OfSaver s)) = refl
flight_of_any moment (Nudge (OfFlight o)) = refl
flight_of_any moment (Nudge (OfSaver s)) = refl
flight_of_any moment (Heard (OfFlight o)) = refl
flight_of_any moment (Heard (OfSaver s)) = refl
flight_of_any moment (Lost (OfFlight o)) = refl
flight_of_any moment (Lost (OfSaver s)) = refl
flight_of_any moment (Clear (OfFlight o)) = refl
flight_of_any moment (Clear (OfSaver s)) = refl
flight_of_any moment _ = refl

-- ---- so a flight goes on, or is the one that ended

pub op_is : (k o : Op) → is_same_op o k ≡ true → k ≡ o
op_is k o e =
    let pass : k.pass ≡ o.pass = grind (arith, nat_tests) in
    let number : k.k ≡ o.k = grind (arith, nat_tests) in
    λ i. record { pass = pass i; k = number i }

-- the flight k ended, if that is what the outcome says of the flight f; or it goes on
abbrev GoesOn : Op → Option Op → Outcome → Type 0
GoesOn k f m = ((if is_end m.reply then f else None) ≡ Some k) ⊎ (has_flight k m.cell ≡ true)

named_goes : (o k : Op) (c : Cell) (m : Outcome) (b : Bool) → is_same_op o k ≡ b → is_end m.reply ≡ true →
    (is_same_op o k ≡ false → has_flight k m.cell ≡ has_flight k c) → has_flight k c ≡ true → GoesOn k (Some o) m
named_goes o k c m true s e others h = inl (ap (λ (b : Bool). if b then Some o else None) e ∙ ap Some (sym (op_is k o s)))
named_goes o k c m false s e others h = inr (others s ∙ h)

keeps_on : (o k : Op) (c : Cell) (m : Outcome) → Keeps o c m → has_flight k c ≡ true → GoesOn k (Some o) m
keeps_on o k c m (All all) h = inr (all k ∙ h)
keeps_on o k c m (Others e others) h = named_goes o k c m (is_same_op o k) refl e (others k) h

goes_by : (x : Step) (a : Action) (c : Cell) (m : Outcome) (k : Op) → Walked x a c → KeptBy a c → Does a c m → has_flight k c ≡ true →
    GoesOn k (flight_of a) m
goes_by x (OnUser u f) c m k w g d h = inr (ap (λ (q : Outcome). has_flight k q.cell) (sym d) ∙ ap (list_any (is_flight k)) w.flights ∙ h)
goes_by x (OnFlight o f) c m k w g d h = subst (GoesOn k (Some o)) d (keeps_on o k c (f c) g h)
goes_by x (OnShard f) c m k w g d h = absurd d

pub goes_on : (moment : ℕ) (x : Step) (c : Cell) (m : Outcome) (k : Op) → Does (action moment x) c m → has_flight k c ≡ true →
    (ended x m.reply ≡ Some k) ⊎ (has_flight k m.cell ≡ true)
goes_on moment x c m k d h =
    subst (λ (f : Option Op). GoesOn k f m) (flight_of_any moment x) (goes_by x (action moment x) c m k (walked moment x c) (kept_by moment x c) d h)
