-- What the entries of a pass find and leave of its flights.
use Rattle.std.proofs.Common.{◌≡◌, ◌≢◌, ℕ, Bool, true, false, cond, List, [], ◌∷◌, ◌++◌, refl, sym, ap, subst, ◌∙◌}
use Rattle.std.specs.Prelude.{Option, Some, None}
use Rattle.push_model.specs.declared.ids.Op.{Op}
use Rattle.push_model.specs.declared.ids.Token.{Token}
use Rattle.push_model.specs.declared.entry.Entry.{Entry}
use Rattle.push_model.specs.declared.parts.FlightRow.{FlightRow}
use Rattle.push_model.specs.declared.step.Stage.{Stage}
use Rattle.push_model.specs.declared.step.Step.{Step}
use Rattle.push_model.specs.declared.step.Step.TheVariants.{Begin}
use Rattle.push_model.specs.declared.reply.Reply.{Reply}
use Rattle.push_model.specs.declared.reply.Reply.TheVariants.{Stage as IsAtStage}
use Rattle.push_model.specs.AskValue.{AskValue}
use Rattle.push_model.specs.Worlds.{World}
use Rattle.push_model.specs.Steps.{proper, step}
use Rattle.push_model.specs.Histories.{AllProper, IsLegal, entry, world_after}
use Rattle.push_model.specs.Reached.{IsReached}
use Rattle.push_model.specs.Frames.{IsLeft, NoBegin, NoneBy, SameFlight, Turned, flight_at, is_begin_of}
use Rattle.push_model.specs.OwnSteps.{IsBegun}
use Rattle.push_model.specs.DeskViews.{DeskView, EndsWith, IsHonest, IsSameDesk, entry_by, own_among, own_entries, world_at}
use Rattle.push_model.specs.Routes.{GoesOn}
use Rattle.push_model.proofs.HistoryLemmas.{after_append, after_last, legal_back, legal_front, proper_back, proper_front}
use Rattle.push_model.proofs.Reached.{reached_after}
use Rattle.push_model.proofs.Bystanders.{others_left}
use Rattle.push_model.proofs.Owned.{begun, goes_on, not_refused, places, unused}
use Rattle.push_model.proofs.Unbegun.{absent_after, foreign_begin, still_absent}
use Rattle.push_model.proofs.ToldAgain.{again_replied, again_stays}
use Rattle.push_model.proofs.Framed.{left_absent}
use Rattle.push_model.proofs.DeskLemmas.{none_by}

-- The world in which an entry was made, after those of others.
record Made (op : Op) (w next : World) (x : Step) (r : Reply) : Type 0 where
  world : World
  reached : IsReached world
  left : IsLeft Turned (flight_at op w) (flight_at op world)
  reply : r ≡ (step world x).1
  leads : next ≡ (step world x).0

made_from : (op : Op) (o w : World) (es ds : List (Entry Step Reply)) (by : ℕ) (x : Step) (r : Reply) → IsReached o → world_after step o es ≡ w →
    IsLegal step o ((es ++ ds) ++ entry by x r ∷ []) → AllProper proper ((es ++ ds) ++ entry by x r ∷ []) → NoneBy op.pass ds →
    Made op w (world_after step o ((es ++ ds) ++ entry by x r ∷ [])) x r
made_from op o w es ds by x r h e l p n =
    let at : world_after step o (es ++ ds) ≡ world_after step w ds = after_append step o es ds ∙ ap (λ z. world_after step z ds) e in
    let foreign = proper_back proper es ds (proper_front proper (es ++ ds) (entry by x r ∷ []) p) in
    record {
      world = world_after step o (es ++ ds);
      reached = reached_after o (es ++ ds) h (legal_front step o (es ++ ds) (entry by x r ∷ []) l);
      left = subst (λ z. IsLeft Turned (flight_at op w) (flight_at op z)) (sym at) (others_left op w ds foreign n);
      reply = (legal_back step o (es ++ ds) (entry by x r ∷ []) l).0;
      leads = after_last step o (es ++ ds) (entry by x r);
    }

made_at : (a b : DeskView) (k : ℕ) (x : Step) (r : Reply) (op : Op) → IsHonest a → IsSameDesk a b → a.number k ≡ op.pass → EndsWith a b k x r →
    Made op (world_at a k) (world_at b k) x r
made_at a b k x r op h s n e =
    let own = none_by (a.is_own k) (a.number k) e.between (h.signs k) e.foreign in
    let both : world_at b k ≡ world_after step (a.opened k) ((a.seen k ++ e.between) ++ entry (a.number k) x r ∷ []) =
    ap (λ w. world_after step w (b.seen k)) (s.opened k) ∙ ap (world_after step (a.opened k)) e.seen in
    let legal : IsLegal step (a.opened k) ((a.seen k ++ e.between) ++ entry (a.number k) x r ∷ []) =
    subst (λ es. IsLegal step (a.opened k) es) e.seen (subst (λ w. IsLegal step w (b.seen k)) (s.opened k) e.legal) in
    subst (λ w. Made op (world_at a k) w x r) (sym both)
    (made_from op (a.opened k) (world_at a k) (a.seen k) e.between (a.number k) x r (h.opened k) refl legal (subst (AllProper proper) e.seen e.each_proper)
    (subst (λ q. NoneBy q e.between) n own))

-- ---- a flight that is there

there : (T : Stage → Stage → Type 0) (f : FlightRow) (o : Option FlightRow) → IsLeft T (Some f) o → (g : FlightRow) × (o ≡ Some g) × SameFlight T f g
there T f None h = absurd h
there T f (Some g) h = (g, refl, h)

route_goes : (op : Op) (x : Step) (r : Reply) (f : FlightRow) (w next : World) → flight_at op w ≡ Some f → Made op w next x r → GoesOn op x r f next
route_goes op x r f w next e m =
    let t = there Turned f (flight_at op m.world) (subst (λ o. IsLeft Turned o (flight_at op m.world)) e m.left) in
    record {
      met = t.0;
      turned = t.2;
      answered = λ d. rw m.reply (not_refused m.world op t.0 x (places m.world m.reached) t.1 d);
      onward = λ s d q. rw m.leads (goes_on m.world op t.0 x s (places m.world m.reached) t.1 d (rw (← m.reply) q));
      again = λ d. (m.reply ∙ again_replied m.world op t.0 x (places m.world m.reached) t.1 d, rw m.leads (again_stays m.world op t.0 x t.1 d));
    }

pub own_goes_on : (a b : DeskView) (k : ℕ) (x : Step) (r : Reply) (op : Op) (f : FlightRow) → IsHonest a → IsSameDesk a b → a.number k ≡ op.pass → EndsWith a b k x r →
    flight_at op (world_at a k) ≡ Some f → GoesOn op x r f (world_at b k)
own_goes_on a b k x r op f h s n e q = route_goes op x r f (world_at a k) (world_at b k) q (made_at a b k x r op h s n e)

-- ---- a flight that isn't there

absent_met : (op : Op) (w next : World) (x : Step) (r : Reply) → flight_at op w ≡ None → (m : Made op w next x r) → flight_at op m.world ≡ None
absent_met op w next x r q m = left_absent Turned (flight_at op m.world) (subst (λ o. IsLeft Turned o (flight_at op m.world)) q m.left)

route_begins : (op : Op) (t : Token) (ask : AskValue) (w next : World) (r : Reply) → flight_at op w ≡ None → Made op w next (Begin op t ask) r →
    ((s : Stage) → r ≢ IsAtStage s) × IsBegun op t ask r (flight_at op next)
route_begins op t ask w next r q m =
    let x : Step = Begin op t ask in
    let none = absent_met op w next x r q m in (
      λ s is. unused op t ask m.world s none (sym m.reply ∙ is),
      subst (λ z. IsBegun op t ask z (flight_at op next)) (sym m.reply)
          (subst (λ v. IsBegun op t ask (step m.world x).1 (flight_at op v)) (sym m.leads) (begun m.world op t ask (places m.world m.reached))),
    )

pub own_begins : (a b : DeskView) (k : ℕ) (t : Token) (ask : AskValue) (r : Reply) (op : Op) → IsHonest a → IsSameDesk a b → a.number k ≡ op.pass → EndsWith a b k (Begin op t ask) r →
    flight_at op (world_at a k) ≡ None → ((s : Stage) → r ≢ IsAtStage s) × IsBegun op t ask r (flight_at op (world_at b k))
own_begins a b k t ask r op h s n e q =
    route_begins op t ask (world_at a k) (world_at b k) r q (made_at a b k (Begin op t ask) r op h s n e)

pub own_waits : (a b : DeskView) (k : ℕ) (x : Step) (r : Reply) (op : Op) → IsHonest a → IsSameDesk a b → a.number k ≡ op.pass → EndsWith a b k x r →
    is_begin_of op x ≡ false → flight_at op (world_at a k) ≡ None → flight_at op (world_at b k) ≡ None
own_waits a b k x r op h s n e i q =
    let m = made_at a b k x r op h s n e in
    rw m.leads (still_absent op m.world x i (absent_met op (world_at a k) (world_at b k) x r q m))

-- ---- a name that was never used

fresh_cons : (op : Op) (p : ℕ → Bool) (e : Entry Step Reply) (es : List (Entry Step Reply)) (b : Bool) → p e.by ≡ b → p op.pass ≡ true → proper e.by e.step ≡ true →
    NoBegin op (cond b (e ∷ own_among entry_by p es) (own_among entry_by p es)) → (is_begin_of op e.step ≡ false) × NoBegin op (own_among entry_by p es)
fresh_cons op p e es true i o q n = n
fresh_cons op p e es false i o q n = (foreign_begin op e.by e.step (λ is. let odd : true ≡ false = sym o ∙ (sym (ap p is) ∙ i) in cc) q, n)

no_begin : (op : Op) (p : ℕ → Bool) (es : List (Entry Step Reply)) → p op.pass ≡ true → AllProper proper es → NoBegin op (own_among entry_by p es) → NoBegin op es
no_begin op p [] o q n = tt
no_begin op p (e ∷ es) o q n =
    let t = fresh_cons op p e es (p e.by) refl o q.0 n in
    (t.0, no_begin op p es o q.1 t.1)

pub fresh_absent : (v : DeskView) (k : ℕ) (op : Op) → IsHonest v → v.number k ≡ op.pass → flight_at op (v.opened k) ≡ None → NoBegin op (own_entries v k) →
    flight_at op (world_at v k) ≡ None
fresh_absent v k op h n q i =
    absent_after op (v.opened k) (v.seen k) (no_begin op (v.is_own k) (v.seen k) (ap (v.is_own k) (sym n) ∙ h.signs k) (h.each_proper k) i) q

pub honest_reached : (v : DeskView) (k : ℕ) → IsHonest v → IsReached (world_at v k)
honest_reached v k h = reached_after (v.opened k) (v.seen k) (h.opened k) (h.legal k)
