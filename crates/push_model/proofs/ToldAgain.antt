-- A Direct or a Nudge that comes again is told the flight's stage, and leaves the flight as it is.
use Rattle.std.proofs.Common.{◌≡◌, ℕ, true, false, inl, inr, refl, sym, ap, subst, ◌∙◌}
use Rattle.std.specs.Prelude.{Option, Some, None}
use Rattle.push_model.specs.declared.ids.Op.{Op}
use Rattle.push_model.specs.declared.parts.FlightRow.{FlightRow}
use Rattle.push_model.specs.declared.step.Actor.TheVariants.{Flight as OfFlight, Saver as OfSaver}
use Rattle.push_model.specs.declared.step.Stage.{Stage}
use Rattle.push_model.specs.declared.step.Stage.TheVariants.{Direct as AtDirect, Nudge as AtNudge}
use Rattle.push_model.specs.declared.step.Step.{Step}
use Rattle.push_model.specs.declared.step.Step.TheVariants.{Direct, Nudge}
use Rattle.push_model.specs.declared.reply.Reply.TheVariants.{Stage as StageIs}
use Rattle.push_model.specs.Cells.{Cell}
use Rattle.push_model.specs.Outcomes.{Outcome}
use Rattle.push_model.specs.FlightSteps.{direct, direct_at, direct_of, flight, nudge, nudge_at, nudge_of}
use Rattle.push_model.specs.Worlds.{World, cell_at, found_or_empty, on_flight, on_flight_of}
use Rattle.push_model.specs.Steps.{step}
use Rattle.push_model.specs.Frames.{IsLeft, SameFlight, TurnedBy, flight_at}
use Rattle.push_model.specs.OwnSteps.{IsToldAgain, is_direct, is_nudge}
use Rattle.push_model.proofs.Owned.{Places, holder, own_lookup}
use Rattle.push_model.proofs.Bystanders.{step_left}

-- ---- the reply

direct_elsewhere : (s : Stage) (moment : ℕ) (o : Op) (f : FlightRow) (c : Cell) → is_direct s ≡ false → (direct_at s moment o f c).reply ≡ StageIs s
direct_elsewhere (AtDirect n a) moment o f c h = let odd : true ≡ false = h in cc
direct_elsewhere s moment o f c h = refl

nudge_elsewhere : (s : Stage) (o : Op) (c : Cell) → is_nudge s ≡ false → (nudge_at s o c).reply ≡ StageIs s
nudge_elsewhere (AtNudge n a) o c h = let odd : true ≡ false = h in cc
nudge_elsewhere s o c h = refl

stage_replied : (o : Op) (f : FlightRow) (w : World) (run : Cell → Outcome) → Places w.cells → flight_at o w ≡ Some f →
    ((c : Cell) → flight o c ≡ Some f → (run c).reply ≡ StageIs f.stage) → (on_flight w o run).1 ≡ StageIs f.stage
stage_replied o f w run p h k =
    let a = holder o f w.cells h in
    let e = a.0 in
    let c : cell_at w.cells e.1.uaid ≡ e.1 = ap (λ x. found_or_empty x e.1.uaid) (own_lookup w e p a.2) in
    subst (λ z. (on_flight_of z w run).1 ≡ StageIs f.stage) (sym a.1) (k (cell_at w.cells e.1.uaid) (ap (flight o) c ∙ a.3))

named_replied : (o k : Op) (f : FlightRow) (w : World) (run : Op → Cell → Outcome) → k ≡ o → Places w.cells → flight_at o w ≡ Some f →
    ((c : Cell) → flight o c ≡ Some f → (run o c).reply ≡ StageIs f.stage) → (on_flight w k (run k)).1 ≡ StageIs f.stage
named_replied o k f w run e p h g = subst (λ z. (on_flight w z (run z)).1 ≡ StageIs f.stage) (sym e) (stage_replied o f w (run o) p h g)

pub again_replied : (w : World) (o : Op) (f : FlightRow) (x : Step) → Places w.cells → flight_at o w ≡ Some f → IsToldAgain o x f.stage → (step w x).1 ≡ StageIs f.stage
again_replied w o f (Direct k) p h t =
    named_replied o k f w (direct w.clock) t.0 p h (λ c e. subst (λ z. (direct_of z w.clock o c).reply ≡ StageIs f.stage) (sym e) (direct_elsewhere f.stage w.clock o f c t.1))
again_replied w o f (Nudge (OfFlight k)) p h t =
    named_replied o k f w nudge t.0 p h (λ c e. subst (λ z. (nudge_of z o c).reply ≡ StageIs f.stage) (sym e) (nudge_elsewhere f.stage o c t.1))
again_replied w o f (Nudge (OfSaver s)) p h t = absurd t
again_replied w o f x p h t = absurd t

-- ---- the flight

unturned_direct : (o k : Op) (s t : Stage) → is_direct s ≡ false → TurnedBy o (Direct k) s t → ⊥
unturned_direct o k (AtDirect n a) t h g = let odd : true ≡ false = h in cc
unturned_direct o k s t h g = g.1

unturned_nudge : (o k : Op) (s t : Stage) → is_nudge s ≡ false → TurnedBy o (Nudge (OfFlight k)) s t → ⊥
unturned_nudge o k (AtNudge n a) t h g = let odd : true ≡ false = h in cc
unturned_nudge o k s t h g = g.1

same_row : (T : Stage → Stage → Type 0) (f g : FlightRow) → (T f.stage g.stage → ⊥) → SameFlight T f g → g ≡ f
same_row T f g un h =
    let stage : g.stage ≡ f.stage = elim h.stage [ inl e ↦ e | inr t ↦ absurd (un t) ] in
    λ i. record { op = h.op i; message = h.message i; token = h.token i; stage = stage i }

still_there : (T : Stage → Stage → Type 0) (f : FlightRow) (o : Option FlightRow) → ((t : Stage) → T f.stage t → ⊥) → IsLeft T (Some f) o → o ≡ Some f
still_there T f None un h = absurd h
still_there T f (Some g) un h = ap (λ z. Some z) (same_row T f g (un g.stage) h)

left_there : (w : World) (o : Op) (f : FlightRow) (x : Step) → ((t : Stage) → TurnedBy o x f.stage t → ⊥) → flight_at o w ≡ Some f →
    IsLeft (TurnedBy o x) (flight_at o w) (flight_at o (step w x).0) → flight_at o (step w x).0 ≡ Some f
left_there w o f x un h l = still_there (TurnedBy o x) f (flight_at o (step w x).0) un (subst (λ z. IsLeft (TurnedBy o x) z (flight_at o (step w x).0)) h l)

pub again_stays : (w : World) (o : Op) (f : FlightRow) (x : Step) → flight_at o w ≡ Some f → IsToldAgain o x f.stage → flight_at o (step w x).0 ≡ Some f
again_stays w o f (Direct k) h t = left_there w o f (Direct k) (λ s. unturned_direct o k f.stage s t.1) h (step_left o w (Direct k) refl)
again_stays w o f (Nudge (OfFlight k)) h t =
    left_there w o f (Nudge (OfFlight k)) (λ s. unturned_nudge o k f.stage s t.1) h (step_left o w (Nudge (OfFlight k)) refl)
again_stays w o f (Nudge (OfSaver s)) h t = absurd t
again_stays w o f x h t = absurd t
