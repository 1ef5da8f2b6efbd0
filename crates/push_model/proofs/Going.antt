-- A step that a flight makes at one of its stages is not refused in its cell, and the flight goes on as the reply says.
use Rattle.std.proofs.Common.{◌≡◌, ℕ, Bool, true, false, cond, List, [], ◌∷◌, refl, ◌∙◌, ap, sym, subst}
use Rattle.std.specs.Prelude.{find, Option, Some, None, ◌==◌, if◌then◌else◌}
use Rattle.push_model.specs.declared.ids.Op.{Op}
use Rattle.push_model.specs.declared.parts.FlightRow.{FlightRow}
use Rattle.push_model.specs.declared.advance.Advance.{Advance}
use Rattle.push_model.specs.declared.advance.Advance.TheVariants.{Moved as Goes, End as Ends, Out, Absent}
use Rattle.push_model.specs.declared.advance.Event.{Event}
use Rattle.push_model.specs.declared.advance.Event.TheVariants.{Heard as HeardOf, Lost as LostOf, GiveUp as GivenUp, Read as ReadPlace}
use Rattle.push_model.specs.declared.step.Stage.{Stage}
use Rattle.push_model.specs.declared.step.Stage.TheVariants.{Direct as AtDirect, Told, Store as AtStore, Reread as AtReread, Nudge as AtNudge, ToldNudge as AtToldNudge, Clear as AtClear}
use Rattle.push_model.specs.declared.standing.Verdict.{Verdict}
use Rattle.push_model.specs.declared.standing.Verdict.TheVariants.{Stays, Older, Full, Joins}
use Rattle.push_model.specs.declared.reply.Reply.{Reply}
use Rattle.push_model.specs.declared.reply.Reply.TheVariants.{NoFlight, Here, NotHere, Stored, End}
use Rattle.push_model.specs.MessageValue.{MessageValue}
use Rattle.push_model.specs.Messages.{is_expired}
use Rattle.push_model.specs.Keyed.{with_first}
use Rattle.push_model.specs.Rows.{verdict}
use Rattle.push_model.specs.Sessions.{Session, is_attached_at}
use Rattle.push_model.specs.Cells.{Cell, is_flight, rows_of, routed_place, has_token}
use Rattle.push_model.specs.Advances.{at_stage, advance_of, flight_advance, to_store}
use Rattle.push_model.specs.Outcomes.{Outcome, outcome, advance_reply, read_reply}
use Rattle.push_model.specs.FlightSteps.{flight, moved_on, with_stage, heard, lost, give_up, reread, direct, direct_of, direct_at, can_give, with_given, store, store_of, store_at, store_by, store_message, stored, nudge, nudge_of, nudge_at, nudge_to, clear, clear_of, clear_at}
use Rattle.push_model.specs.Steps.{step}
use Rattle.push_model.specs.Replies.{is_refusal}
use Rattle.push_model.specs.OwnSteps.{stage_after, is_direct, is_store, is_reread, is_nudge, is_told_of, may_lose, may_give_up, is_clear}

-- ---- the flight in its cell

find_with_cons : (p : FlightRow → Bool) (g : FlightRow → FlightRow) (b : Bool) (x f : FlightRow) (xs ys : List FlightRow) → p x ≡ b →
    ((y : FlightRow) → p (g y) ≡ p y) → cond b (Some x) (find p xs) ≡ Some f → (find p xs ≡ Some f → find p ys ≡ Some (g f)) →
    find p (cond b (g x ∷ xs) (x ∷ ys)) ≡ Some (g f)
find_with_cons p g true x f xs ys e k h ih = let q : x ≡ f = cc in rw (k x, e) (ap (λ y. Some (g y)) q)
find_with_cons p g false x f xs ys e k h ih = rw e (ih h)

find_with : (p : FlightRow → Bool) (g : FlightRow → FlightRow) (f : FlightRow) (xs : List FlightRow) → ((y : FlightRow) → p (g y) ≡ p y) →
    find p xs ≡ Some f → find p (with_first p g xs) ≡ Some (g f)
find_with p g f [] k h = cc
find_with p g f (x ∷ xs) k h = find_with_cons p g (p x) x f xs (with_first p g xs) refl k h (λ q. find_with p g f xs k q)

staged : (o : Op) (t : Stage) (f : FlightRow) (fs : List FlightRow) → find (is_flight o) fs ≡ Some f →
    find (is_flight o) (with_first (is_flight o) (at_stage t) fs) ≡ Some (at_stage t f)
staged o t f fs h = find_with (is_flight o) (at_stage t) f fs (λ y. refl) h

-- ---- in a cell

-- the reply r isn't a refusal, and the flight, which was at s, is at the stage that r says
pub record Going (o : Op) (f : FlightRow) (s : Stage) (g : Option FlightRow) (r : Reply) : Type 0 where
  pub within : is_refusal r ≡ false
  pub onward : (t : Stage) → stage_after r s ≡ Some t → g ≡ Some (at_stage t f)

-- so it goes in the cell of an outcome
abbrev pub GoesBy : Op → FlightRow → Stage → Outcome → Type 0
GoesBy o f s m = Going o f s (flight o m.cell) m.reply

ended : (o : Op) (f : FlightRow) (s : Stage) (g : Option FlightRow) (n : ℕ) → Going o f s g (End n)
ended o f s g n = record { within = refl; onward = λ t h. cc }

-- where an advance goes on or ends
abbrev moves_on : Advance → Bool
moves_on (Goes t) = true
moves_on (Ends n) = true
moves_on (Out t) = false
moves_on Absent = false

advance_goes : (o : Op) (f : FlightRow) (c : Cell) (s : Stage) (a : Advance) → flight o c ≡ Some f → moves_on a ≡ true →
    Going o f s (flight o (moved_on a o c)) (advance_reply a NoFlight)
advance_goes o f c s (Goes u) e m =
    record {
      within = refl;
      onward = λ t h. let q : u ≡ t = cc in staged o u f c.flights e ∙ ap (λ z. Some (at_stage z f)) q;
    }
advance_goes o f c s (Ends n) e m = ended o f s _ n
advance_goes o f c s (Out u) e m = cc
advance_goes o f c s Absent e m = cc

unkept_moves : (b : Bool) → moves_on (to_store b) ≡ true
unkept_moves true = refl
unkept_moves false = refl

heard_moves : (b : Bool) (s : Stage) → is_told_of s ≡ true → moves_on (flight_advance HeardOf b s) ≡ true
heard_moves b (Told true) h = refl
heard_moves b (Told false) h = unkept_moves b
heard_moves b (AtToldNudge true n a) h = refl
heard_moves b (AtToldNudge false n a) h = refl
heard_moves b s h = cc

lost_moves : (b : Bool) (s : Stage) → may_lose s ≡ true → moves_on (flight_advance LostOf b s) ≡ true
lost_moves b (AtDirect n a) h = unkept_moves b
lost_moves b (Told here) h = unkept_moves b
lost_moves b (AtNudge n a) h = refl
lost_moves b (AtToldNudge here n a) h = refl
lost_moves b s h = cc

give_up_moves : (b : Bool) (s : Stage) → may_give_up s ≡ true → moves_on (flight_advance GivenUp b s) ≡ true
give_up_moves b (AtDirect n a) h = refl
give_up_moves b (Told here) h = refl
give_up_moves b AtStore h = refl
give_up_moves b s h = cc

-- what an event alone does
event_goes : (v : Event) (o : Op) (f : FlightRow) (c : Cell) → flight o c ≡ Some f → moves_on (advance_of v (Some f)) ≡ true →
    Going o f f.stage (flight o (moved_on (advance_of v (flight o c)) o c)) (advance_reply (advance_of v (flight o c)) NoFlight)
event_goes v o f c e m = advance_goes o f c f.stage (advance_of v (flight o c)) e (ap (λ z. moves_on (advance_of v z)) e ∙ m)

pub heard_goes : (o : Op) (f : FlightRow) (c : Cell) → flight o c ≡ Some f → is_told_of f.stage ≡ true → GoesBy o f f.stage (heard o c)
heard_goes o f c e h = event_goes HeardOf o f c e (heard_moves (f.message.ask.terms.ttl == 0) f.stage h)

pub lost_goes : (o : Op) (f : FlightRow) (c : Cell) → flight o c ≡ Some f → may_lose f.stage ≡ true → GoesBy o f f.stage (lost o c)
lost_goes o f c e h = event_goes LostOf o f c e (lost_moves (f.message.ask.terms.ttl == 0) f.stage h)

pub give_up_goes : (o : Op) (f : FlightRow) (c : Cell) → flight o c ≡ Some f → may_give_up f.stage ≡ true → GoesBy o f f.stage (give_up o c)
give_up_goes o f c e h = event_goes GivenUp o f c e (give_up_moves (f.message.ask.terms.ttl == 0) f.stage h)

-- a flight at stage t, after a reply that says so
at_goes : (o : Op) (f : FlightRow) (s t : Stage) (g : Option FlightRow) (r : Reply) → is_refusal r ≡ false → stage_after r s ≡ Some t →
    g ≡ Some (at_stage t f) → Going o f s g r
at_goes o f s t g r n e h =
    record { within = n; onward = λ u k. let q : t ≡ u = cc in h ∙ ap (λ z. Some (at_stage z f)) q }

read_goes : (o : Op) (f : FlightRow) (c : Cell) (p : Option (ℕ × ℕ)) (s : Stage) (a : Advance) → flight o c ≡ Some f → is_reread s ≡ true →
    a ≡ flight_advance (ReadPlace p) (f.message.ask.terms.ttl == 0) s → Going o f s (flight o (moved_on a o c)) (read_reply a NoFlight)
read_goes o f c None AtReread a e h q =
    subst (λ z. Going o f AtReread (flight o (moved_on z o c)) (read_reply z NoFlight)) (sym q) (ended o f AtReread _ 201)
read_goes o f c (Some p) AtReread a e h q =
    subst (λ z. Going o f AtReread (flight o (moved_on z o c)) (read_reply z NoFlight)) (sym q)
    (at_goes o f AtReread (AtNudge p.0 p.1) _ _ refl refl (staged o (AtNudge p.0 p.1) f c.flights e))
read_goes o f c p s a e h q = cc

pub reread_goes : (o : Op) (f : FlightRow) (c : Cell) → flight o c ≡ Some f → is_reread f.stage ≡ true → GoesBy o f f.stage (reread o c)
reread_goes o f c e h =
    let p = routed_place c.user in
    read_goes o f c p f.stage (advance_of (ReadPlace p) (flight o c)) e h (ap (advance_of (ReadPlace p)) e)

-- a step that reads the flight first
of_flight : (step : Option FlightRow → Outcome) (o : Op) (f : FlightRow) (c : Cell) → flight o c ≡ Some f → GoesBy o f f.stage (step (Some f)) →
    GoesBy o f f.stage (step (flight o c))
of_flight step o f c e h = subst (λ z. GoesBy o f f.stage (step z)) (sym e) h

direct_by : (n a moment : ℕ) (o : Op) (f : FlightRow) (c : Cell) (b : Bool) → flight o c ≡ Some f →
    let m = if b then outcome (with_stage o (Told true) (with_given n f.message c)) (Here c.uaid) else outcome (with_stage o (Told false) c) NotHere in
    GoesBy o f (AtDirect n a) m
direct_by n a moment o f c true e = at_goes o f (AtDirect n a) (Told true) _ _ refl refl (staged o (Told true) f c.flights e)
direct_by n a moment o f c false e = at_goes o f (AtDirect n a) (Told false) _ _ refl refl (staged o (Told false) f c.flights e)

direct_at_goes : (s : Stage) (moment : ℕ) (o : Op) (f : FlightRow) (c : Cell) → flight o c ≡ Some f → is_direct s ≡ true →
    GoesBy o f s (direct_at s moment o f c)
direct_at_goes (AtDirect n a) moment o f c e h = direct_by n a moment o f c (can_give (find (is_attached_at n) c.sessions) moment f c.user) e
direct_at_goes s moment o f c e h = cc

pub direct_goes : (moment : ℕ) (o : Op) (f : FlightRow) (c : Cell) → flight o c ≡ Some f → is_direct f.stage ≡ true →
    GoesBy o f f.stage (direct moment o c)
direct_goes moment o f c e h = of_flight (λ z. direct_of z moment o c) o f c e (direct_at_goes f.stage moment o f c e h)

nudge_to_goes : (x : Option Session) (n a : ℕ) (o : Op) (f : FlightRow) (c : Cell) → flight o c ≡ Some f →
    GoesBy o f (AtNudge n a) (nudge_to x n a o c)
nudge_to_goes None n a o f c e =
    at_goes o f (AtNudge n a) (AtToldNudge false n a) _ _ refl refl (staged o (AtToldNudge false n a) f c.flights e)
nudge_to_goes (Some x) n a o f c e =
    at_goes o f (AtNudge n a) (AtToldNudge true n a) _ _ refl refl (staged o (AtToldNudge true n a) f c.flights e)

nudge_at_goes : (s : Stage) (o : Op) (f : FlightRow) (c : Cell) → flight o c ≡ Some f → is_nudge s ≡ true → GoesBy o f s (nudge_at s o c)
nudge_at_goes (AtNudge n a) o f c e h = nudge_to_goes (find (is_attached_at n) c.sessions) n a o f c e
nudge_at_goes s o f c e h = cc

pub nudge_goes : (o : Op) (f : FlightRow) (c : Cell) → flight o c ≡ Some f → is_nudge f.stage ≡ true → GoesBy o f f.stage (nudge o c)
nudge_goes o f c e h = of_flight (λ z. nudge_of z o c) o f c e (nudge_at_goes f.stage o f c e h)

clear_at_goes : (s : Stage) (o : Op) (f : FlightRow) (c : Cell) → is_clear s ≡ true → GoesBy o f s (clear_at s o c)
clear_at_goes (AtClear n a) o f c h = ended o f (AtClear n a) _ 201
clear_at_goes s o f c h = cc

pub clear_goes : (o : Op) (f : FlightRow) (c : Cell) → flight o c ≡ Some f → is_clear f.stage ≡ true → GoesBy o f f.stage (clear o c)
clear_goes o f c e h = of_flight (λ z. clear_of z o c) o f c e (clear_at_goes f.stage o f c h)

abbrev StoreGoes : Op → FlightRow → Outcome → Type 0
StoreGoes o f m = GoesBy o f AtStore m

picked : (o : Op) (f : FlightRow) (b : Bool) (m n : Outcome) → StoreGoes o f m → StoreGoes o f n → StoreGoes o f (if b then m else n)
picked o f true m n h k = h
picked o f false m n h k = k

reread_next : (o : Op) (f : FlightRow) (c d : Cell) → flight o c ≡ Some f → d.flights ≡ with_first (is_flight o) (at_stage AtReread) c.flights →
    StoreGoes o f (outcome d Stored)
reread_next o f c d e q =
    at_goes o f AtStore AtReread _ _ refl refl (ap (find (is_flight o)) q ∙ staged o AtReread f c.flights e)

store_by_goes : (d : Verdict) (o : Op) (f : FlightRow) (m : MessageValue) (c : Cell) → flight o c ≡ Some f → StoreGoes o f (store_by d o m c)
store_by_goes Stays o f m c e = reread_next o f c (with_stage o AtReread c) e refl
store_by_goes Older o f m c e = ended o f AtStore _ 201
store_by_goes Full o f m c e = ended o f AtStore _ 503
store_by_goes Joins o f m c e = reread_next o f c (stored o m c).cell e refl

store_message_goes : (moment : ℕ) (o : Op) (f : FlightRow) (c : Cell) → flight o c ≡ Some f → StoreGoes o f (store_message moment o f c)
store_message_goes moment o f c e =
    picked o f (has_token f.message.chid f.token c.user) _ _
    (picked o f (is_expired moment f.message) _ _ (ended o f AtStore _ 201)
    (store_by_goes (verdict f.message (rows_of c.user)) o f f.message c e))
    (ended o f AtStore _ 410)

store_at_goes : (s : Stage) (moment : ℕ) (o : Op) (f : FlightRow) (c : Cell) → flight o c ≡ Some f → is_store s ≡ true →
    GoesBy o f s (store_at s moment o f c)
store_at_goes AtStore moment o f c e h = store_message_goes moment o f c e
store_at_goes s moment o f c e h = cc

pub store_goes : (moment : ℕ) (o : Op) (f : FlightRow) (c : Cell) → flight o c ≡ Some f → is_store f.stage ≡ true →
    GoesBy o f f.stage (store moment o c)
store_goes moment o f c e h = of_flight (λ z. store_of z moment o c) o f c e (store_at_goes f.stage moment o f c e h)
