-- A flight whose message is to be given to a session.
use Rattle.std.proofs.Common.{◌≡◌, ◌⊎◌, ℕ, Bool, true, false, ◌||◌, ◌==◌, inl, inr, List, [], refl, sym, ap, subst, ◌∙◌}
use Rattle.std.specs.Prelude.{Some, Result, Ok}
use Rattle.push_model.specs.declared.entry.NoMemory.{NoMemory}
use Rattle.push_model.specs.declared.step.Actor.TheVariants.{Flight as OfFlight}
use Rattle.push_model.specs.declared.step.Stage.{Stage}
use Rattle.push_model.specs.declared.step.Stage.TheVariants.{Direct as StageDirect, Told as StageTold, Store as StageStore, Nudge as StageNudge}
use Rattle.push_model.specs.declared.step.Step.TheVariants.{Direct, GiveUp, Heard, Lost}
use Rattle.push_model.specs.declared.reply.Reply.{Reply}
use Rattle.push_model.specs.declared.reply.Reply.TheVariants.{NoFlight, Here, NotHere, Stage as StageIs, Moved}
use Rattle.push_model.specs.Advances.{heard_advance}
use Rattle.push_model.specs.Outcomes.{advance_reply}
use Rattle.push_model.specs.Frames.{Turned}
use Rattle.push_model.specs.OwnSteps.{is_direct, is_told_of, may_lose, stage_after, told_stage}
use Rattle.push_model.specs.Replies.{is_refusal, is_told_reply}
use Rattle.push_model.specs.DeskViews.{Calls, DeskView, Made, Mails}
use Rattle.node_routes.specs.Links.{Makes, Says, answer_of}
use Rattle.endpoint_router.specs.declared.answer.Answer.{Answer}
use Rattle.endpoint_router.specs.declared.answer.Answer.TheVariants.{Created}
use Rattle.endpoint_router.specs.declared.routing.Routing.{Routing}
use Rattle.endpoint_router.specs.Readings.{is_end}
use Rattle.endpoint_router.specs.Routes.{AfterDirect, AtDirect, AtStore, AtTold, GivenUp, Next, TakenOrStored}
use Rattle.endpoint_router.specs.Flights.{InDirect, InGiving, InStore, InTold, InUnstored, IsFlying}
use Rattle.endpoint_router.specs.Went.{PostsOn, Went}
use Rattle.endpoint_router.proofs.OwnLemmas.{Own, due, goes, own_of, seen_as, stays, still_flying, told_again, turned_keeps}
use Rattle.endpoint_router.proofs.ReplyLemmas.{heard_replied, heard_told, lost_giving, lost_replied, or_right, stored_reply}
use Rattle.endpoint_router.proofs.WentLemmas.{silent, went_next, went_once, went_still}
use Rattle.endpoint_router.proofs.NudgeLemmas.{linked_as, same_link}

abbrev Answered : Type 0
Answered = Result Answer NoMemory

-- the answer of a message that was taken
abbrev created : Routing → Answered
created x = Ok (Created x.id x.ttl)

not_true : (L : Type 0) → false ≡ true → L
not_true L e = let odd : false ≡ true = e in cc

-- ---- the flight ended, or its message is to be stored

stored_end : (x : Routing) (e : Bool) (r : Reply) → r ≡ stored_reply e → is_end r ≡ true → TakenOrStored (created x) x e r []
stored_end x true r q h = (q, refl)
stored_end x false r q h = let odd : false ≡ true = ap is_end (sym q) ∙ h in cc

stored_on : (e : Bool) (r : Reply) → r ≡ stored_reply e → is_end r ≡ false → (e ≡ false) × (r ≡ Moved StageStore)
stored_on true r q h = let odd : true ≡ false = ap is_end (sym q) ∙ h in cc
stored_on false r q h = (refl, q)

-- ---- Told, where the link was heard

module _ (a b : DeskView) (x : Routing) (here : Bool) (r : Reply) (h : IsFlying a x (InTold here)) (m : Makes a b x.shard (Heard (OfFlight x.op)) r) (mail : Mails a b []) where
  told_own : Own b x (InTold here) (Heard (OfFlight x.op)) r
  told_own = own_of a b x (InTold here) (Heard (OfFlight x.op)) r h m (silent a b x.shard mail)

  told_met : InTold here told_own.met.stage
  told_met =
      turned_keeps (InTold here) (λ n a was p. let odd : StageDirect n a ≡ StageTold here = p in cc) (λ n a was p. let odd : StageNudge n a ≡ StageTold here = p in cc)
      told_own.stage told_own.met.stage told_own.turned told_own.seen

  abbrev told_taken : Bool
  told_taken = here || (x.ttl == 0)

  told_reply : r ≡ stored_reply told_taken
  told_reply =
      heard_replied b x (InTold here) r told_own
      ∙ (ap (λ s. advance_reply (heard_advance (x.ttl == 0) s) NoFlight) told_met ∙ heard_told here (x.ttl == 0))

  pub push_heard_ends : (L : Type 0) → is_end r ≡ true → Went a b x.shard L (Next x.shard (Heard (OfFlight x.op)) (TakenOrStored (created x) x told_taken))
  push_heard_ends L e =
      went_once a b x.shard (Heard (OfFlight x.op)) r L (TakenOrStored (created x) x told_taken) m (silent a b x.shard mail) (not_true L) (stored_end x told_taken r told_reply e)

  pub push_heard_flies : is_end r ≡ false → IsFlying b x InStore
  push_heard_flies e =
      goes b x (InTold here) (Heard (OfFlight x.op)) r told_own InStore StageStore (refl, ap is_told_of told_met)
      (ap (λ z. stage_after z told_own.met.stage) (stored_on told_taken r told_reply e).1) refl

  pub push_heard_stores : (c : DeskView) (L : Type 0) (answer : Answered) → is_end r ≡ false → Went b c x.shard L (AtStore answer x) →
      Went a c x.shard L (Next x.shard (Heard (OfFlight x.op)) (TakenOrStored answer x told_taken))
  push_heard_stores c L answer e w =
      let on = stored_on told_taken r told_reply e in
      went_next a b c x.shard (Heard (OfFlight x.op)) r L L (AtStore answer x) (Next x.shard (Heard (OfFlight x.op)) (TakenOrStored answer x told_taken)) m (silent a b x.shard mail)
      (not_true L) (λ l. l) w (λ ms p. (refl, refl, subst (λ z. TakenOrStored answer x z r ms) (sym on.0) (on.1, p)))

-- ---- Direct or Told, where the link was lost

giving_may_lose : (s : Stage) → InGiving s → may_lose s ≡ true
giving_may_lose (StageDirect n a) h = refl
giving_may_lose (StageTold here) h = refl
giving_may_lose s h = absurd h

module _ (a b : DeskView) (x : Routing) (r : Reply) (h : IsFlying a x InGiving) (m : Makes a b x.shard (Lost (OfFlight x.op)) r) (mail : Mails a b []) where
  loss_own : Own b x InGiving (Lost (OfFlight x.op)) r
  loss_own = own_of a b x InGiving (Lost (OfFlight x.op)) r h m (silent a b x.shard mail)

  loss_met : InGiving loss_own.met.stage
  loss_met = turned_keeps InGiving (λ n a here p. tt) (λ n a here p. absurd p) loss_own.stage loss_own.met.stage loss_own.turned loss_own.seen

  loss_reply : r ≡ stored_reply (x.ttl == 0)
  loss_reply = lost_replied b x InGiving r loss_own ∙ lost_giving (x.ttl == 0) loss_own.met.stage loss_met

  pub push_lost_ends : is_end r ≡ true → Went a b x.shard (Unit {0}) (Next x.shard (Lost (OfFlight x.op)) (TakenOrStored (created x) x (x.ttl == 0)))
  push_lost_ends e =
      went_once a b x.shard (Lost (OfFlight x.op)) r (Unit {0}) (TakenOrStored (created x) x (x.ttl == 0)) m (silent a b x.shard mail) (λ l. tt)
      (stored_end x (x.ttl == 0) r loss_reply e)

  pub push_lost_flies : is_end r ≡ false → IsFlying b x InStore
  push_lost_flies e =
      goes b x InGiving (Lost (OfFlight x.op)) r loss_own InStore StageStore (refl, giving_may_lose loss_own.met.stage loss_met)
      (ap (λ z. stage_after z loss_own.met.stage) (stored_on (x.ttl == 0) r loss_reply e).1) refl

  pub push_lost_stores : (c : DeskView) (M : Type 0) (answer : Answered) → is_end r ≡ false → Went b c x.shard M (AtStore answer x) →
      Went a c x.shard (Unit {0}) (Next x.shard (Lost (OfFlight x.op)) (TakenOrStored answer x (x.ttl == 0)))
  push_lost_stores c M answer e w =
      let on = stored_on (x.ttl == 0) r loss_reply e in
      went_next a b c x.shard (Lost (OfFlight x.op)) r (Unit {0}) M (AtStore answer x) (Next x.shard (Lost (OfFlight x.op)) (TakenOrStored answer x (x.ttl == 0))) m
      (silent a b x.shard mail) (λ l. tt) (λ l. tt) w (λ ms p. (refl, refl, subst (λ z. TakenOrStored answer x z r ms) (sym on.0) (on.1, p)))

-- ---- Direct

-- The step Direct was made, and the flight was told whether the session has the message: by this step, or by another pass before.
record PushTold (b : DeskView) (x : Routing) (r : Reply) : Type 0 where
  here : Bool
  says : answer_of r ≡ linked_as here
  flying : IsFlying b x (InTold here)
  follows : (answer : Answered) (ms : List Made) → AtTold answer x here ms → AfterDirect answer x r ms

push_replied : (b : DeskView) (x : Routing) (s : Stage) (n a : ℕ) (r : Reply) → s ≡ StageDirect n a → is_told_reply r ≡ true →
    ((here : Bool) → stage_after r s ≡ Some (StageTold here) → IsFlying b x (InTold here)) → PushTold b x r
push_replied b x s n a (Here u) e t f = record { here = true; says = refl; flying = f true (ap (told_stage true) e); follows = λ answer ms p. p }
push_replied b x s n a NotHere e t f = record { here = false; says = refl; flying = f false (ap (told_stage false) e); follows = λ answer ms p. p }
push_replied b x s n a r e t f = let odd : false ≡ true = t in cc

again_says : (here : Bool) → answer_of (StageIs (StageTold here)) ≡ linked_as here
again_says true = refl
again_says false = refl

push_again : (b : DeskView) (x : Routing) (s : Stage) (here : Bool) (r : Reply) → s ≡ StageTold here → r ≡ StageIs s → IsFlying b x (InTold here) → PushTold b x r
push_again b x s here r e q f =
    let is : r ≡ StageIs (StageTold here) = q ∙ ap (λ z. StageIs z) e in
    subst (λ z. PushTold b x z) (sym is) (record { here = here; says = again_says here; flying = f; follows = λ answer ms p. p })

-- the stage that a Direct meets
met_direct : (s t : Stage) → (t ≡ s) ⊎ Turned s t → InDirect s → InDirect t ⊎ ((here : Bool) × InTold here t)
met_direct s t (inl e) p = inl (p.0, p.1, e ∙ p.2)
met_direct (StageNudge n a) t (inr q) p = let odd : StageNudge n a ≡ StageDirect p.0 p.1 = p.2 in cc
met_direct (StageDirect n a) t (inr (inl q)) p = inr (q.0, q.1)
met_direct (StageDirect n a) t (inr (inr q)) p = absurd q
met_direct s t (inr (inl q)) p = absurd q
met_direct s t (inr (inr q)) p = absurd q

module _ (a b : DeskView) (x : Routing) (r : Reply) (h : IsFlying a x InDirect) (m : Makes a b x.shard (Direct x.op) r) (mail : PostsOn a b x.shard) where
  push_own : Own b x InDirect (Direct x.op) r
  push_own = own_of a b x InDirect (Direct x.op) r h m mail

  push_first : InDirect push_own.met.stage → PushTold b x r
  push_first p =
      let fit = due b x InDirect (Direct x.op) r push_own (refl, ap is_direct p.2) in
      push_replied b x push_own.met.stage p.0 p.1 r p.2 (or_right (is_refusal r) (is_told_reply r) push_own.fits fit)
      (λ here e. goes b x InDirect (Direct x.op) r push_own (InTold here) (StageTold here) (refl, ap is_direct p.2) e refl)

  push_second : (here : Bool) → InTold here push_own.met.stage → PushTold b x r
  push_second here p =
      let again : (x.op ≡ x.op) × (is_direct push_own.met.stage ≡ false) = (refl, ap is_direct p) in
      push_again b x push_own.met.stage here r p (told_again b x InDirect (Direct x.op) r push_own again)
      (stays b x InDirect (Direct x.op) r push_own (InTold here) again p)

  push_told : PushTold b x r
  push_told = elim (met_direct push_own.stage push_own.met.stage push_own.turned push_own.seen) [ inl p ↦ push_first p | inr q ↦ push_second q.0 q.1 ]

-- where the link says so
module _ (a b : DeskView) (x : Routing) (here : Bool) (h : IsFlying a x InDirect) (s : Says a b x.shard (Direct x.op) (linked_as here)) (mail : PostsOn a b x.shard) where
  said : PushTold b x s.0
  said = push_told a b x s.0 h s.2 mail

  said_here : said.here ≡ here
  said_here = same_link said.here here (sym said.says ∙ s.1)

  pub push_said_flies : IsFlying b x (InTold here)
  push_said_flies = subst (λ z. IsFlying b x (InTold z)) said_here said.flying

  pub push_said_went : (c : DeskView) (L M : Type 0) (answer : Answered) → (M → L) →
      Went b c x.shard M (Next x.shard (Heard (OfFlight x.op)) (TakenOrStored answer x (here || (x.ttl == 0)))) → Went a c x.shard L (AtDirect answer x)
  push_said_went c L M answer wider w =
      went_next a b c x.shard (Direct x.op) s.0 L M (Next x.shard (Heard (OfFlight x.op)) (TakenOrStored answer x (here || (x.ttl == 0)))) (AtDirect answer x) s.2 mail (not_true L)
      wider w (λ ms p. inl (refl, refl, said.follows answer ms (subst (λ z. AtTold answer x z ms) (sym said_here) (inl p))))

-- where the link was lost, or wanted memory
module _ (a b : DeskView) (x : Routing) (h : IsFlying a x InDirect) (mail : PostsOn a b x.shard) where
  giving : (s : Stage) → InDirect s → InGiving s
  giving s p = subst InGiving (sym p.2) tt

  given : (here : Bool) (s : Stage) → InTold here s → InGiving s
  given here s p = subst InGiving (sym p) tt

  unstored : (s : Stage) → InDirect s → InUnstored s
  unstored s p = subst InUnstored (sym p.2) tt

  pub push_loss_flies : Calls a b [] ⊎ ((r : Reply) × Makes a b x.shard (Direct x.op) r) → IsFlying b x InGiving
  push_loss_flies (inl c) = seen_as b x InDirect InGiving giving (still_flying a b x InDirect h c mail)
  push_loss_flies (inr m) = let t = push_told a b x m.0 h m.1 mail in seen_as b x (InTold t.here) InGiving (given t.here) t.flying

  pub push_loss_went : (c : DeskView) (L : Type 0) (answer : Answered) → Calls a b [] ⊎ ((r : Reply) × Makes a b x.shard (Direct x.op) r) → L →
      Went b c x.shard (Unit {0}) (Next x.shard (Lost (OfFlight x.op)) (TakenOrStored answer x (x.ttl == 0))) → Went a c x.shard L (AtDirect answer x)
  push_loss_went c L answer (inl still) l w =
      went_still a b c x.shard L (Unit {0}) (Next x.shard (Lost (OfFlight x.op)) (TakenOrStored answer x (x.ttl == 0))) (AtDirect answer x) still mail (λ u. l) w
      (λ ms p. inr (inl p))
  push_loss_went c L answer (inr m) l w =
      let t = push_told a b x m.0 h m.1 mail in
      went_next a b c x.shard (Direct x.op) m.0 L (Unit {0}) (Next x.shard (Lost (OfFlight x.op)) (TakenOrStored answer x (x.ttl == 0))) (AtDirect answer x) m.1 mail (not_true L)
      (λ u. l) w (λ ms p. inl (refl, refl, t.follows answer ms (inr p)))

  pub push_stays : Calls a b [] → IsFlying b x InUnstored
  push_stays c = seen_as b x InDirect InUnstored unstored (still_flying a b x InDirect h c mail)

  pub push_gives_up : (c : DeskView) (L : Type 0) (answer : Answered) → Calls a b [] → Went b c x.shard ⊥ (Next x.shard (GiveUp x.op) (GivenUp answer x)) →
      Went a c x.shard L (AtDirect answer x)
  push_gives_up c L answer still w =
      went_still a b c x.shard L ⊥ (Next x.shard (GiveUp x.op) (GivenUp answer x)) (AtDirect answer x) still mail (λ l. absurd l) w (λ ms p. inr (inr p))
