-- What a step that the route makes itself finds of its flight, and what it leaves.
use Rattle.std.proofs.Common.{◌≡◌, ◌⊎◌, ℕ, ◌<◌, ◌==◌, true, false, inl, inr, [], ◌∷◌, ◌++◌, List, refl, sym, ap, subst, ◌∙◌}
use Rattle.std.specs.Prelude.{Option, Some, None}
use Rattle.push_model.specs.declared.entry.Entry.{Entry}
use Rattle.push_model.specs.declared.parts.FlightRow.{FlightRow}
use Rattle.push_model.specs.declared.step.Stage.{Stage}
use Rattle.push_model.specs.declared.step.Stage.TheVariants.{Direct as AtDirect, Told as AtTold, Nudge as AtNudge, ToldNudge as AtToldNudge}
use Rattle.push_model.specs.declared.step.Step.{Step}
use Rattle.push_model.specs.declared.reply.Reply.{Reply}
use Rattle.push_model.specs.declared.reply.Reply.TheVariants.{Stage as StageIs}
use Rattle.push_model.specs.Worlds.{World}
use Rattle.push_model.specs.Steps.{proper, step}
use Rattle.push_model.specs.Histories.{AllProper, IsLegal, entry, world_after}
use Rattle.push_model.specs.Advances.{at_stage}
use Rattle.push_model.specs.Frames.{IsLeft, NoneBy, SameFlight, Turned, flight_at}
use Rattle.push_model.specs.Replies.{is_refusal, replies_to}
use Rattle.push_model.specs.OwnSteps.{IsDue, IsToldAgain, stage_after}
use Rattle.push_model.specs.DeskViews.{Calls, DeskView, EndsWith, IsHonest, made, world_at}
use Rattle.push_model.proofs.HistoryLemmas.{after_append, after_last, legal_back, legal_front, proper_back, proper_front}
use Rattle.push_model.proofs.Reached.{reached_after}
use Rattle.push_model.proofs.Bystanders.{others_left}
use Rattle.push_model.proofs.Owned.{Places, goes_on, not_refused, places}
use Rattle.push_model.proofs.ToldAgain.{again_replied, again_stays}
use Rattle.push_model.proofs.DeskLemmas.{honest_after, none_by}
use Rattle.node_routes.specs.Links.{Makes}
use Rattle.endpoint_router.specs.declared.routing.Routing.{Routing}
use Rattle.endpoint_router.specs.Flights.{IsFlying}
use Rattle.endpoint_router.specs.Went.{PostsOn}

-- ---- where it was made

-- Where the flight was seen at such a stage, and the desks are b after the step with that reply: the world in which the step was
-- made, after those of others, and the flight there.
pub record Own (b : DeskView) (x : Routing) (P : Stage → Type 0) (asked : Step) (r : Reply) : Type 0 where
  pub honest : IsHonest b
  pub within : x.shard < b.size
  pub number : b.number x.shard ≡ x.op.pass
  pub signs : (x.op.pass == b.number x.shard) ≡ true
  pub world : World
  pub places : Places world.cells
  pub met : FlightRow
  pub is : flight_at x.op world ≡ Some met
  pub stage : Stage
  pub seen : P stage
  pub turned : (met.stage ≡ stage) ⊎ Turned stage met.stage
  pub ttl : met.message.ask.terms.ttl ≡ x.ttl
  pub fits : replies_to asked r ≡ true
  pub reply : r ≡ (step world asked).1
  pub leads : world_at b x.shard ≡ (step world asked).0

there : (f : FlightRow) (o : Option FlightRow) → IsLeft Turned (Some f) o → (g : FlightRow) × (o ≡ Some g) × SameFlight Turned f g
there f None h = absurd h
there f (Some g) h = (g, refl, h)

module _ (a b : DeskView) (x : Routing) (P : Stage → Type 0) (asked : Step) (r : Reply) (h : IsFlying a x P) (m : Makes a b x.shard asked r) where
  abbrev k : ℕ
  k = x.shard

  abbrev e : EndsWith a b x.shard asked r
  e = m.last

  abbrev before : List (Entry Step Reply)
  before = a.seen k ++ e.between

  legal : IsLegal step (a.opened k) (before ++ entry (a.number k) asked r ∷ [])
  legal = subst (λ es. IsLegal step (a.opened k) es) e.seen (subst (λ w. IsLegal step w (b.seen k)) (m.calls.same.opened k) e.legal)

  each_proper : AllProper proper (before ++ entry (a.number k) asked r ∷ [])
  each_proper = subst (AllProper proper) e.seen e.each_proper

  foreign : NoneBy x.op.pass e.between
  foreign = subst (λ q. NoneBy q e.between) h.number (none_by (a.is_own k) (a.number k) e.between (h.honest.signs k) e.foreign)

  abbrev w : World
  w = world_after step (a.opened k) before

  others : IsLeft Turned (flight_at x.op (world_at a k)) (flight_at x.op w)
  others = subst (λ z. IsLeft Turned (flight_at x.op (world_at a k)) (flight_at x.op z)) (sym (after_append step (a.opened k) (a.seen k) e.between))
      (others_left x.op (world_at a k) e.between (proper_back proper (a.seen k) e.between (proper_front proper before (entry (a.number k) asked r ∷ []) each_proper)) foreign)

  leading : world_at b k ≡ (step w asked).0
  leading = ap (λ z. world_after step z (b.seen k)) (m.calls.same.opened k)
      ∙ (ap (world_after step (a.opened k)) e.seen ∙ after_last step (a.opened k) before (entry (a.number k) asked r))

  pub own_of : PostsOn a b k → Own b x P asked r
  own_of mail =
      let t = there h.flight (flight_at x.op w) (subst (λ o. IsLeft Turned o (flight_at x.op w)) h.is others) in
      let same = m.calls.same in
      let size : b.size ≡ a.size = same.size in
      let number : b.number k ≡ a.number k = same.number k in
      record {
        honest = honest_after a b (made k asked r ∷ []) mail.0 m.calls mail.2 h.honest;
        within = subst (λ n. k < n) (sym size) h.within;
        number = number ∙ h.number;
        signs = subst (λ n. (x.op.pass == n) ≡ true) (sym number) h.signs;
        world = w;
        places = places w (reached_after (a.opened k) before (h.honest.opened k) (legal_front step (a.opened k) before (entry (a.number k) asked r ∷ []) legal));
        met = t.0;
        is = t.1;
        stage = h.flight.stage;
        seen = h.stage;
        turned = t.2.stage;
        ttl = ap (λ z. z.ask.terms.ttl) t.2.message ∙ h.ttl;
        fits = m.fits;
        reply = (legal_back step (a.opened k) before (entry (a.number k) asked r ∷ []) legal).0;
        leads = leading;
      }

-- ---- what it replied, and what it left

module _ (b : DeskView) (x : Routing) (P : Stage → Type 0) (asked : Step) (r : Reply) (h : Own b x P asked r) where
  pub due : IsDue x.op asked h.met.stage → is_refusal r ≡ false
  due d = ap is_refusal h.reply ∙ not_refused h.world x.op h.met asked h.places h.is d

  flies : (f : FlightRow) (Q : Stage → Type 0) → f.message ≡ h.met.message → flight_at x.op (step h.world asked).0 ≡ Some f → Q f.stage → IsFlying b x Q
  flies f Q m is q = record {
    honest = h.honest;
    within = h.within;
    number = h.number;
    signs = h.signs;
    flight = f;
    is = ap (flight_at x.op) h.leads ∙ is;
    stage = q;
    ttl = ap (λ z. z.ask.terms.ttl) m ∙ h.ttl;
  }

  pub goes : (Q : Stage → Type 0) (t : Stage) → IsDue x.op asked h.met.stage → stage_after r h.met.stage ≡ Some t → Q t → IsFlying b x Q
  goes Q t d e q =
      flies (at_stage t h.met) Q refl (goes_on h.world x.op h.met asked t h.places h.is d (subst (λ z. stage_after z h.met.stage ≡ Some t) h.reply e)) q

  pub told_again : IsToldAgain x.op asked h.met.stage → r ≡ StageIs h.met.stage
  told_again d = h.reply ∙ again_replied h.world x.op h.met asked h.places h.is d

  pub stays : (Q : Stage → Type 0) → IsToldAgain x.op asked h.met.stage → Q h.met.stage → IsFlying b x Q
  stays Q d q = flies h.met Q refl (again_stays h.world x.op h.met asked h.is d) q

-- ---- the stage that was met

-- what others can't turn is still so
pub turned_keeps : (P : Stage → Type 0) → ((n a : ℕ) (here : _) → P (AtDirect n a) → P (AtTold here)) → ((n a : ℕ) (here : _) → P (AtNudge n a) → P (AtToldNudge here n a)) →
    (s t : Stage) → (t ≡ s) ⊎ Turned s t → P s → P t
turned_keeps P f g s t (inl e) p = subst P (sym e) p
turned_keeps P f g (AtDirect n a) t (inr (inl q)) p = subst P (sym q.1) (f n a q.0 p)
turned_keeps P f g (AtDirect n a) t (inr (inr q)) p = absurd q
turned_keeps P f g (AtNudge n a) t (inr (inl q)) p = absurd q
turned_keeps P f g (AtNudge n a) t (inr (inr q)) p = subst P (sym q.1) (g n a q.0 p)
turned_keeps P f g s t (inr (inl q)) p = absurd q
turned_keeps P f g s t (inr (inr q)) p = absurd q

-- ---- where no step was made

pub still_flying : (a b : DeskView) (x : Routing) (P : Stage → Type 0) → IsFlying a x P → Calls a b [] → PostsOn a b x.shard → IsFlying b x P
still_flying a b x P h c mail =
    let size : b.size ≡ a.size = c.same.size in
    let number : b.number x.shard ≡ a.number x.shard = c.same.number x.shard in
    record {
      honest = honest_after a b [] mail.0 c mail.2 h.honest;
      within = subst (λ n. x.shard < n) (sym size) h.within;
      number = number ∙ h.number;
      signs = subst (λ n. (x.op.pass == n) ≡ true) (sym number) h.signs;
      flight = h.flight;
      is = ap (λ z. flight_at x.op (world_after step z (b.seen x.shard))) (c.same.opened x.shard)
          ∙ (ap (λ z. flight_at x.op (world_after step (a.opened x.shard) z)) (c.others x.shard refl) ∙ h.is);
      stage = h.stage;
      ttl = h.ttl;
    }

pub seen_as : (v : DeskView) (x : Routing) (P Q : Stage → Type 0) → ((s : Stage) → P s → Q s) → IsFlying v x P → IsFlying v x Q
seen_as v x P Q f h = record {
  honest = h.honest;
  within = h.within;
  number = h.number;
  signs = h.signs;
  flight = h.flight;
  is = h.is;
  stage = f h.flight.stage h.stage;
  ttl = h.ttl;
}
