-- A flight that isn't there comes by its Begin alone.
use Rattle.std.proofs.Common.{◌≡◌, ◌≢◌, ℕ, Bool, true, false, List, [], ◌∷◌, refl, sym, subst, ◌∙◌}
use Rattle.std.specs.Prelude.{find, None, ◌==◌, ◌&&◌}
use Rattle.std.proofs.lemmas.Bool.{eqb-true}
use Rattle.push_model.specs.declared.ids.Op.{Op}
use Rattle.push_model.specs.declared.entry.Entry.{Entry}
use Rattle.push_model.specs.declared.step.Actor.TheVariants.{Flight as OfFlight}
use Rattle.push_model.specs.declared.step.Step.{Step}
use Rattle.push_model.specs.declared.step.Step.TheVariants.{Begin, Store, GiveUp, Reread, Heard, Lost, Clear}
use Rattle.push_model.specs.declared.reply.Reply.{Reply}
use Rattle.push_model.specs.Names.{is_same_op}
use Rattle.push_model.specs.Cells.{Cell}
use Rattle.push_model.specs.Outcomes.{Outcome}
use Rattle.push_model.specs.FlightSteps.{store, give_up, reread, heard, lost, clear}
use Rattle.push_model.specs.Worlds.{World, on_flight, on_flight_of, has_flight_in}
use Rattle.push_model.specs.Steps.{proper, step}
use Rattle.push_model.specs.Histories.{world_after}
use Rattle.push_model.specs.Frames.{is_own, is_begin_of, flight_at, IsLeft, TurnedBy, NoBegin}
use Rattle.push_model.proofs.Framed.{left_absent}
use Rattle.push_model.proofs.Owned.{no_entry}
use Rattle.push_model.proofs.Bystanders.{step_left, foreign}

both_true : (p q : Bool) → (p && q) ≡ true → (p ≡ true) × (q ≡ true)
both_true true true e = (refl, refl)
both_true true false e = let odd : false ≡ true = e in cc
both_true false q e = let odd : false ≡ true = e in cc

same_op : (k o : Op) → is_same_op k o ≡ true → k ≡ o
same_op k o e =
    let t = both_true (k.pass == o.pass) (k.k == o.k) e in
    let p : k.pass ≡ o.pass = eqb-true k.pass o.pass t.0 in
    let q : k.k ≡ o.k = eqb-true k.k o.k t.1 in
    λ i. record { pass = p i; k = q i }

-- a step of the flight k, where k is o and isn't there
none_made : (o k : Op) (w : World) (f : Cell → Outcome) → is_same_op k o ≡ true → flight_at o w ≡ None → flight_at o (on_flight w k f).0 ≡ None
none_made o k w f e h =
    let is : find (has_flight_in k) w.cells ≡ None = subst (λ z. find (has_flight_in z) w.cells ≡ None) (sym (same_op k o e)) (no_entry o w.cells h) in
    subst (λ z. flight_at o (on_flight_of z w f).0 ≡ None) (sym is) h

absent_own : (o : Op) (w : World) (x : Step) → is_own o x ≡ true → is_begin_of o x ≡ false → flight_at o w ≡ None → flight_at o (step w x).0 ≡ None
absent_own o w (Begin k t a) e n h = let odd : true ≡ false = sym e ∙ n in cc
absent_own o w (Store k) e n h = none_made o k w (store w.clock k) e h
absent_own o w (GiveUp k) e n h = none_made o k w (give_up k) e h
absent_own o w (Reread (OfFlight k)) e n h = none_made o k w (reread k) e h
absent_own o w (Heard (OfFlight k)) e n h = none_made o k w (heard k) e h
absent_own o w (Lost (OfFlight k)) e n h = none_made o k w (lost k) e h
absent_own o w (Clear (OfFlight k)) e n h = none_made o k w (clear k) e h
absent_own o w x e n h = let odd : false ≡ true = e in cc

absent_by : (o : Op) (w : World) (x : Step) (b : Bool) → is_own o x ≡ b → is_begin_of o x ≡ false → flight_at o w ≡ None → flight_at o (step w x).0 ≡ None
absent_by o w x true e n h = absent_own o w x e n h
absent_by o w x false e n h =
    left_absent (TurnedBy o x) (flight_at o (step w x).0) (subst (λ z. IsLeft (TurnedBy o x) z (flight_at o (step w x).0)) h (step_left o w x e))

pub still_absent : (o : Op) (w : World) (x : Step) → is_begin_of o x ≡ false → flight_at o w ≡ None → flight_at o (step w x).0 ≡ None
still_absent o w x n h = absent_by o w x (is_own o x) refl n h

-- a step that isn't the flight's own is no Begin of it
begin_is_own : (o : Op) (x : Step) → is_own o x ≡ false → is_begin_of o x ≡ false
begin_is_own o (Begin k t a) e = e
begin_is_own o x e = refl

pub foreign_begin : (o : Op) (q : ℕ) (x : Step) → q ≢ o.pass → proper q x ≡ true → is_begin_of o x ≡ false
foreign_begin o q x ne p = begin_is_own o x (foreign o q x ne p)

pub absent_after : (o : Op) (w : World) (es : List (Entry Step Reply)) → NoBegin o es → flight_at o w ≡ None → flight_at o (world_after step w es) ≡ None
absent_after o w [] n h = h
absent_after o w (e ∷ es) n h = absent_after o (step w e.step).0 es n.1 (still_absent o w e.step n.0 h)
