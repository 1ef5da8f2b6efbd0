-- Which reply a step of the route has at the stage that it met.
use Rattle.std.proofs.Common.{◌≡◌, ℕ, Bool, true, false, ◌||◌, ◌==◌, refl, sym, ap, subst, ◌∙◌}
use Rattle.std.specs.Prelude.{Some}
use Rattle.std.proofs.lemmas.Bool.{eqb-true}
use Rattle.push_model.specs.declared.ids.Op.{Op}
use Rattle.push_model.specs.declared.parts.FlightRow.{FlightRow}
use Rattle.push_model.specs.declared.advance.Event.TheVariants.{Heard as HeardOf, Lost as LostOf}
use Rattle.push_model.specs.declared.step.Actor.TheVariants.{Flight as OfFlight}
use Rattle.push_model.specs.declared.step.Stage.{Stage}
use Rattle.push_model.specs.declared.step.Stage.TheVariants.{Direct as AtDirect, Told as AtTold, Store as AtStore, Nudge as AtNudge, ToldNudge as AtToldNudge, Clear as AtClear}
use Rattle.push_model.specs.declared.step.Step.TheVariants.{Heard, Lost}
use Rattle.push_model.specs.declared.reply.Reply.{Reply}
use Rattle.push_model.specs.declared.reply.Reply.TheVariants.{NoFlight, End, Moved}
use Rattle.push_model.specs.Advances.{advance_of, heard_advance, lost_advance, to_store}
use Rattle.push_model.specs.Outcomes.{Outcome, advance_reply}
use Rattle.push_model.specs.Cells.{Cell}
use Rattle.push_model.specs.FlightSteps.{flight, heard, lost}
use Rattle.push_model.specs.Worlds.{World, cell_at, found_or_empty, on_flight, on_flight_of}
use Rattle.push_model.specs.Frames.{flight_at}
use Rattle.push_model.specs.Replies.{is_end_reply}
use Rattle.push_model.specs.DeskViews.{DeskView}
use Rattle.push_model.proofs.Owned.{Places, holder, own_lookup}
use Rattle.endpoint_router.specs.declared.routing.Routing.{Routing}
use Rattle.endpoint_router.specs.Flights.{InGiving, InNudging}
use Rattle.endpoint_router.proofs.OwnLemmas.{Own}

pub or_right : (p q : Bool) → (p || q) ≡ true → p ≡ false → q ≡ true
or_right true q e f = let odd : true ≡ false = f in cc
or_right false q e f = e

pub end_is : (n : ℕ) (r : Reply) → is_end_reply n r ≡ true → r ≡ End n
end_is n (End code) h = ap End (eqb-true code n h)
end_is n r h = let odd : false ≡ true = h in cc

-- ---- what an event alone does

flight_replied : (o : Op) (f : FlightRow) (w : World) (run : Cell → Outcome) (r : Reply) → Places w.cells → flight_at o w ≡ Some f →
    ((c : Cell) → flight o c ≡ Some f → (run c).reply ≡ r) → (on_flight w o run).1 ≡ r
flight_replied o f w run r p h k =
    let a = holder o f w.cells h in
    let e = a.0 in
    let c : cell_at w.cells e.1.uaid ≡ e.1 = ap (λ z. found_or_empty z e.1.uaid) (own_lookup w e p a.2) in
    subst (λ z. (on_flight_of z w run).1 ≡ r) (sym a.1) (k (cell_at w.cells e.1.uaid) (ap (flight o) c ∙ a.3))

pub heard_replied : (b : DeskView) (x : Routing) (P : Stage → Type 0) (r : Reply) → (h : Own b x P (Heard (OfFlight x.op)) r) →
    r ≡ advance_reply (heard_advance (x.ttl == 0) h.met.stage) NoFlight
heard_replied b x P r h =
    let said : Reply = advance_reply (heard_advance (h.met.message.ask.terms.ttl == 0) h.met.stage) NoFlight in
    h.reply
    ∙ (flight_replied x.op h.met h.world (heard x.op) said h.places h.is (λ c e. ap (λ z. advance_reply (advance_of HeardOf z) NoFlight) e)
    ∙ ap (λ n. advance_reply (heard_advance (n == 0) h.met.stage) NoFlight) h.ttl)

pub lost_replied : (b : DeskView) (x : Routing) (P : Stage → Type 0) (r : Reply) → (h : Own b x P (Lost (OfFlight x.op)) r) →
    r ≡ advance_reply (lost_advance (x.ttl == 0) h.met.stage) NoFlight
lost_replied b x P r h =
    let said : Reply = advance_reply (lost_advance (h.met.message.ask.terms.ttl == 0) h.met.stage) NoFlight in
    h.reply
    ∙ (flight_replied x.op h.met h.world (lost x.op) said h.places h.is (λ c e. ap (λ z. advance_reply (advance_of LostOf z) NoFlight) e)
    ∙ ap (λ n. advance_reply (lost_advance (n == 0) h.met.stage) NoFlight) h.ttl)

-- ---- by the stage

-- the flight ended, or its message is to be stored
abbrev pub stored_reply : Bool → Reply
stored_reply true = End 201
stored_reply false = Moved AtStore

to_store_reply : (unkept : Bool) → advance_reply (to_store unkept) NoFlight ≡ stored_reply unkept
to_store_reply true = refl
to_store_reply false = refl

pub heard_told : (here unkept : Bool) → advance_reply (heard_advance unkept (AtTold here)) NoFlight ≡ stored_reply (here || unkept)
heard_told true unkept = refl
heard_told false unkept = to_store_reply unkept

pub lost_giving : (unkept : Bool) (s : Stage) → InGiving s → advance_reply (lost_advance unkept s) NoFlight ≡ stored_reply unkept
lost_giving unkept (AtDirect n a) h = to_store_reply unkept
lost_giving unkept (AtTold here) h = to_store_reply unkept
lost_giving unkept s h = absurd h

-- the flight ended, or the session is to be cleared
abbrev pub cleared_reply : Bool → ℕ → ℕ → Reply
cleared_reply true n a = End 201
cleared_reply false n a = Moved (AtClear n a)

pub heard_nudged : (here unkept : Bool) (n a : ℕ) → advance_reply (heard_advance unkept (AtToldNudge here n a)) NoFlight ≡ cleared_reply here n a
heard_nudged true unkept n a = refl
heard_nudged false unkept n a = refl

pub lost_nudging : (unkept : Bool) (s : Stage) → InNudging s → (n : ℕ) × (a : ℕ) × (advance_reply (lost_advance unkept s) NoFlight ≡ Moved (AtClear n a))
lost_nudging unkept (AtNudge n a) h = (n, a, refl)
lost_nudging unkept (AtToldNudge here n a) h = (n, a, refl)
lost_nudging unkept s h = absurd h
