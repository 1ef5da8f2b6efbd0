-- What the steps of a flight reply, and what they leave of the user's channels and flights.
use Rattle.std.proofs.Common.{◌≡◌, ℕ, Bool, true, false, List, refl, sym, subst}
use Rattle.std.specs.Prelude.{find, Option, Some, None, ◌==◌, if◌then◌else◌}
use Rattle.push_model.specs.declared.ids.Op.{Op}
use Rattle.push_model.specs.declared.parts.FlightRow.{FlightRow}
use Rattle.push_model.specs.declared.advance.Advance.{Advance}
use Rattle.push_model.specs.declared.advance.Advance.TheVariants.{Moved as Goes, End as Ends}
use Rattle.push_model.specs.declared.advance.Event.TheVariants.{Heard as HeardOf, Lost as LostOf, GiveUp as GivenUp, Read as ReadPlace}
use Rattle.push_model.specs.declared.step.Actor.TheVariants.{Flight as OfFlight}
use Rattle.push_model.specs.declared.step.Stage.{Stage}
use Rattle.push_model.specs.declared.step.Stage.TheVariants.{Direct as AtDirect, Told, Store as AtStore, Reread as AtReread, Nudge as AtNudge, ToldNudge as AtToldNudge, Clear as AtClear}
use Rattle.push_model.specs.declared.step.Step.{Step}
use Rattle.push_model.specs.declared.step.Step.TheVariants.{Direct, Store, GiveUp, Reread, Nudge, Heard, Lost, Clear}
use Rattle.push_model.specs.declared.standing.Verdict.{Verdict}
use Rattle.push_model.specs.declared.standing.Verdict.TheVariants.{Stays, Older, Full, Joins}
use Rattle.push_model.specs.declared.reply.Reply.{Reply}
use Rattle.push_model.specs.declared.reply.Reply.TheVariants.{NoFlight, Here, NotHere}
use Rattle.push_model.specs.Names.{is_same_op}
use Rattle.push_model.specs.MessageValue.{MessageValue}
use Rattle.push_model.specs.Messages.{is_expired}
use Rattle.push_model.specs.Keyed.{with_first}
use Rattle.push_model.specs.Rows.{verdict}
use Rattle.push_model.specs.Sessions.{Session, is_attached_at}
use Rattle.push_model.specs.Cells.{Cell, channels_of, has_token, is_flight, routed_place, rows_of}
use Rattle.push_model.specs.Advances.{at_stage, advanced, advance_of, to_store, heard_advance, lost_advance, give_up_advance, read_advance, read_place}
use Rattle.push_model.specs.Outcomes.{Outcome, outcome, advance_reply, read_reply}
use Rattle.push_model.specs.FlightSteps.{flight, heard, lost, give_up, reread, direct, direct_of, direct_at, can_give, with_given, with_stage, store, store_of, store_at, store_message, store_by, nudge, nudge_of, nudge_at, nudge_to, clear, clear_of, clear_at}
use Rattle.push_model.specs.Narrow.{LeavesChannels}
use Rattle.push_model.specs.Frames.{Given, Nudged, TurnedBy, is_own}
use Rattle.push_model.proofs.SameChannels.{same_cleared, same_stored, same_told}
use Rattle.push_model.proofs.Quiet.{RepliesTo}

-- From the flights fs to gs they stay; or the flight k advances, where the step is its own; or it turns to the stage t.
pub data Moved (x : Step) (k : Op) (fs gs : List FlightRow) : Type 0 where
  Stay : (e : gs ≡ fs) → Moved x k fs gs
  Advanced : (own : (o : Op) → is_own o x ≡ is_same_op k o) → (a : Advance) → (e : gs ≡ advanced a k fs) → Moved x k fs gs
  Turn : (f : FlightRow) → (t : Stage) → (there : find (is_flight k) fs ≡ Some f) →
      (turned : (o : Op) → is_same_op k o ≡ true → TurnedBy o x f.stage t) → (e : gs ≡ with_first (is_flight k) (at_stage t) fs) → Moved x k fs gs

-- the channels are left as the step leaves them, the flights stay or that one moves, and the reply is one that the step
-- can have, and so is NoFlight
pub record Moves (x : Step) (k : Op) (c : Cell) (m : Outcome) : Type 0 where
  pub uaid : m.cell.uaid ≡ c.uaid
  pub channels : LeavesChannels x (channels_of c.user) (channels_of m.cell.user) m.reply
  pub flights : Moved x k c.flights m.cell.flights
  pub reply : RepliesTo x m.reply
  pub absent : RepliesTo x NoFlight

moves : {x : Step} {k : Op} {c : Cell} {m : Outcome} → m.cell.uaid ≡ c.uaid → Moved x k c.flights m.cell.flights →
    LeavesChannels x (channels_of c.user) (channels_of m.cell.user) m.reply → RepliesTo x NoFlight → RepliesTo x m.reply → Moves x k c m
moves u f h a r = record { uaid = u; channels = h; flights = f; reply = r; absent = a }

one_of : {x : Step} {k : Op} {c : Cell} {m n : Outcome} (b : Bool) → Moves x k c m → Moves x k c n → Moves x k c (if b then m else n)
one_of true h k = h
one_of false h k = k

-- ---- Heard, Lost, GiveUp and Reread

heard_unkept : (o : Op) (r : Reply) (b : Bool) → RepliesTo (Heard (OfFlight o)) (advance_reply (to_store b) r)
heard_unkept o r true = refl
heard_unkept o r false = refl

heard_at : (o : Op) (r : Reply) (b : Bool) (stage : Stage) → RepliesTo (Heard (OfFlight o)) (advance_reply (heard_advance b stage) r)
heard_at o r b (Told true) = refl
heard_at o r b (Told false) = heard_unkept o r b
heard_at o r b (AtToldNudge true n a) = refl
heard_at o r b (AtToldNudge false n a) = refl
heard_at o r b _ = refl

heard_by : (o : Op) (f : Option FlightRow) → RepliesTo (Heard (OfFlight o)) (advance_reply (advance_of HeardOf f) NoFlight)
heard_by o None = refl
heard_by o (Some f) = heard_at o NoFlight (f.message.ask.terms.ttl == 0) f.stage

pub heard_moves : (o : Op) (c : Cell) → Moves (Heard (OfFlight o)) o c (heard o c)
heard_moves o c = moves refl (Advanced (λ k. refl) (advance_of HeardOf (flight o c)) refl) refl refl (heard_by o (flight o c))

lost_unkept : (o : Op) (r : Reply) (b : Bool) → RepliesTo (Lost (OfFlight o)) (advance_reply (to_store b) r)
lost_unkept o r true = refl
lost_unkept o r false = refl

lost_at : (o : Op) (r : Reply) (b : Bool) (stage : Stage) → RepliesTo (Lost (OfFlight o)) (advance_reply (lost_advance b stage) r)
lost_at o r b (AtDirect n a) = lost_unkept o r b
lost_at o r b (Told h) = lost_unkept o r b
lost_at o r b (AtNudge n a) = refl
lost_at o r b (AtToldNudge h n a) = refl
lost_at o r b _ = refl

lost_by : (o : Op) (f : Option FlightRow) → RepliesTo (Lost (OfFlight o)) (advance_reply (advance_of LostOf f) NoFlight)
lost_by o None = refl
lost_by o (Some f) = lost_at o NoFlight (f.message.ask.terms.ttl == 0) f.stage

pub lost_moves : (o : Op) (c : Cell) → Moves (Lost (OfFlight o)) o c (lost o c)
lost_moves o c = moves refl (Advanced (λ k. refl) (advance_of LostOf (flight o c)) refl) refl refl (lost_by o (flight o c))

give_up_at : (o : Op) (r : Reply) (stage : Stage) → RepliesTo (GiveUp o) (advance_reply (give_up_advance stage) r)
give_up_at o r (AtDirect n a) = refl
give_up_at o r (Told h) = refl
give_up_at o r AtStore = refl
give_up_at o r _ = refl

give_up_by : (o : Op) (f : Option FlightRow) → RepliesTo (GiveUp o) (advance_reply (advance_of GivenUp f) NoFlight)
give_up_by o None = refl
give_up_by o (Some f) = give_up_at o NoFlight f.stage

pub give_up_moves : (o : Op) (c : Cell) → Moves (GiveUp o) o c (give_up o c)
give_up_moves o c = moves refl (Advanced (λ k. refl) (advance_of GivenUp (flight o c)) refl) refl refl (give_up_by o (flight o c))

reread_place : (o : Op) (r : Reply) (p : Option (ℕ × ℕ)) → RepliesTo (Reread (OfFlight o)) (read_reply (read_place 201 p) r)
reread_place o r None = refl
reread_place o r (Some p) = refl

reread_at : (o : Op) (r : Reply) (p : Option (ℕ × ℕ)) (stage : Stage) → RepliesTo (Reread (OfFlight o)) (read_reply (read_advance 201 p stage) r)
reread_at o r p AtReread = reread_place o r p
reread_at o r p _ = refl

reread_by : (o : Op) (p : Option (ℕ × ℕ)) (f : Option FlightRow) → RepliesTo (Reread (OfFlight o)) (read_reply (advance_of (ReadPlace p) f) NoFlight)
reread_by o p None = refl
reread_by o p (Some f) = reread_at o NoFlight p f.stage

pub reread_moves : (o : Op) (c : Cell) → Moves (Reread (OfFlight o)) o c (reread o c)
reread_moves o c =
    let p = routed_place c.user in
    moves refl (Advanced (λ k. refl) (advance_of (ReadPlace p) (flight o c)) refl) refl refl (reread_by o p (flight o c))

-- ---- Store and Clear

store_by_moves : (d : Verdict) (o : Op) (m : MessageValue) (c : Cell) → Moves (Store o) o c (store_by d o m c)
store_by_moves Stays o m c = moves refl (Advanced (λ k. refl) (Goes AtReread) refl) refl refl refl
store_by_moves Older o m c = moves refl (Advanced (λ k. refl) (Ends 201) refl) refl refl refl
store_by_moves Full o m c = moves refl (Advanced (λ k. refl) (Ends 503) refl) refl refl refl
store_by_moves Joins o m c = moves refl (Advanced (λ k. refl) (Goes AtReread) refl) (same_stored m c.user) refl refl

store_message_moves : (moment : ℕ) (o : Op) (f : FlightRow) (c : Cell) → Moves (Store o) o c (store_message moment o f c)
store_message_moves moment o f c =
    one_of (has_token f.message.chid f.token c.user)
    (one_of (is_expired moment f.message)
    (moves refl (Advanced (λ k. refl) (Ends 201) refl) refl refl refl) (store_by_moves (verdict f.message (rows_of c.user)) o f.message c))
    (moves refl (Advanced (λ k. refl) (Ends 410) refl) refl refl refl)

store_at_moves : (stage : Stage) (moment : ℕ) (o : Op) (f : FlightRow) (c : Cell) → Moves (Store o) o c (store_at stage moment o f c)
store_at_moves AtStore moment o f c = store_message_moves moment o f c
store_at_moves _ moment o f c = moves refl (Stay refl) refl refl refl

store_of_moves : (f : Option FlightRow) (moment : ℕ) (o : Op) (c : Cell) → Moves (Store o) o c (store_of f moment o c)
store_of_moves None moment o c = moves refl (Stay refl) refl refl refl
store_of_moves (Some f) moment o c = store_at_moves f.stage moment o f c

pub store_moves : (moment : ℕ) (o : Op) (c : Cell) → Moves (Store o) o c (store moment o c)
store_moves moment o c = store_of_moves (flight o c) moment o c

clear_at_moves : (stage : Stage) (o : Op) (c : Cell) → Moves (Clear (OfFlight o)) o c (clear_at stage o c)
clear_at_moves (AtClear n a) o c = moves refl (Advanced (λ k. refl) (Ends 201) refl) (same_cleared n a c.user) refl refl
clear_at_moves _ o c = moves refl (Stay refl) refl refl refl

clear_of_moves : (f : Option FlightRow) (o : Op) (c : Cell) → Moves (Clear (OfFlight o)) o c (clear_of f o c)
clear_of_moves None o c = moves refl (Stay refl) refl refl refl
clear_of_moves (Some f) o c = clear_at_moves f.stage o c

pub clear_moves : (o : Op) (c : Cell) → Moves (Clear (OfFlight o)) o c (clear o c)
clear_moves o c = clear_of_moves (flight o c) o c

-- ---- Direct and Nudge, which any pass may make

-- the flight, which is at that node and moment, turns to Told
given_turn : (n a : ℕ) (b : Bool) (o : Op) (f : FlightRow) (c : Cell) → flight o c ≡ Some f → f.stage ≡ AtDirect n a →
    Moved (Direct o) o c.flights (with_first (is_flight o) (at_stage (Told b)) c.flights)
given_turn n a b o f c e s = Turn f (Told b) e (λ k q. (q, subst (λ z. Given z (Told b)) (sym s) (b, refl))) refl

given_moves : (n a : ℕ) (o : Op) (f : FlightRow) (c : Cell) (b : Bool) → flight o c ≡ Some f → f.stage ≡ AtDirect n a →
    Moves (Direct o) o c (if b then outcome (with_stage o (Told true) (with_given n f.message c)) (Here c.uaid) else outcome (with_stage o (Told false) c) NotHere)
given_moves n a o f c true e s = moves refl (given_turn n a true o f c e s) refl refl refl
given_moves n a o f c false e s = moves refl (given_turn n a false o f c e s) refl refl refl

direct_at_moves : (stage : Stage) (moment : ℕ) (o : Op) (f : FlightRow) (c : Cell) → flight o c ≡ Some f → f.stage ≡ stage →
    Moves (Direct o) o c (direct_at stage moment o f c)
direct_at_moves (AtDirect n a) moment o f c e s = given_moves n a o f c (can_give (find (is_attached_at n) c.sessions) moment f c.user) e s
direct_at_moves _ moment o f c e s = moves refl (Stay refl) refl refl refl

direct_of_moves : (f : Option FlightRow) (moment : ℕ) (o : Op) (c : Cell) → flight o c ≡ f → Moves (Direct o) o c (direct_of f moment o c)
direct_of_moves None moment o c e = moves refl (Stay refl) refl refl refl
direct_of_moves (Some f) moment o c e = direct_at_moves f.stage moment o f c e refl

pub direct_moves : (moment : ℕ) (o : Op) (c : Cell) → Moves (Direct o) o c (direct moment o c)
direct_moves moment o c = direct_of_moves (flight o c) moment o c refl

-- and to ToldNudge
told_turn : (n a : ℕ) (b : Bool) (o : Op) (f : FlightRow) (c : Cell) → flight o c ≡ Some f → f.stage ≡ AtNudge n a →
    Moved (Nudge (OfFlight o)) o c.flights (with_first (is_flight o) (at_stage (AtToldNudge b n a)) c.flights)
told_turn n a b o f c e s = Turn f (AtToldNudge b n a) e (λ k q. (q, subst (λ z. Nudged z (AtToldNudge b n a)) (sym s) (b, refl))) refl

nudge_to_moves : (x : Option Session) (n a : ℕ) (o : Op) (f : FlightRow) (c : Cell) → flight o c ≡ Some f → f.stage ≡ AtNudge n a →
    Moves (Nudge (OfFlight o)) o c (nudge_to x n a o c)
nudge_to_moves None n a o f c e s = moves refl (told_turn n a false o f c e s) refl refl refl
nudge_to_moves (Some x) n a o f c e s = moves refl (told_turn n a true o f c e s) (same_told n (Some x) c) refl refl

nudge_at_moves : (stage : Stage) (o : Op) (f : FlightRow) (c : Cell) → flight o c ≡ Some f → f.stage ≡ stage →
    Moves (Nudge (OfFlight o)) o c (nudge_at stage o c)
nudge_at_moves (AtNudge n a) o f c e s = nudge_to_moves (find (is_attached_at n) c.sessions) n a o f c e s
nudge_at_moves _ o f c e s = moves refl (Stay refl) refl refl refl

nudge_of_moves : (f : Option FlightRow) (o : Op) (c : Cell) → flight o c ≡ f → Moves (Nudge (OfFlight o)) o c (nudge_of f o c)
nudge_of_moves None o c e = moves refl (Stay refl) refl refl refl
nudge_of_moves (Some f) o c e = nudge_at_moves f.stage o f c e refl

pub nudge_moves : (o : Op) (c : Cell) → Moves (Nudge (OfFlight o)) o c (nudge o c)
nudge_moves o c = nudge_of_moves (flight o c) o c refl
