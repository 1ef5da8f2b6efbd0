-- A flight whose message is stored, from Reread to its end.
use Rattle.std.proofs.Common.{◌≡◌, ◌⊎◌, ℕ, Bool, true, false, ◌==◌, inl, inr, List, [], refl, sym, ap, subst, ◌∙◌}
use Rattle.std.specs.Prelude.{Some, None, Result, Ok}
use Rattle.push_model.specs.declared.entry.NoMemory.{NoMemory}
use Rattle.push_model.specs.declared.step.Actor.TheVariants.{Flight as OfFlight}
use Rattle.push_model.specs.declared.step.Stage.{Stage}
use Rattle.push_model.specs.declared.step.Stage.TheVariants.{Direct as StageDirect, Reread as StageReread, Nudge as StageNudge, ToldNudge as StageToldNudge, Clear as StageClear}
use Rattle.push_model.specs.declared.step.Step.TheVariants.{Reread, Nudge, Heard, Lost, Clear}
use Rattle.push_model.specs.declared.reply.Reply.{Reply}
use Rattle.push_model.specs.declared.reply.Reply.TheVariants.{NoFlight, Here, NotHere, Stage as StageIs, Names, End, Moved}
use Rattle.push_model.specs.Advances.{heard_advance}
use Rattle.push_model.specs.Outcomes.{advance_reply}
use Rattle.push_model.specs.Frames.{Turned}
use Rattle.push_model.specs.OwnSteps.{is_clear, is_nudge, is_reread, is_told_of, may_lose, stage_after, told_stage}
use Rattle.push_model.specs.Replies.{is_end_reply, is_read_reply, is_refusal, is_told_reply}
use Rattle.push_model.specs.DeskViews.{Calls, DeskView, Made, Mails}
use Rattle.node_routes.specs.declared.link.Linked.{Linked}
use Rattle.node_routes.specs.declared.link.Linked.TheVariants.{Here as LinkedHere, NotHere as LinkedNotHere}
use Rattle.node_routes.specs.Links.{Makes, Says, answer_of}
use Rattle.endpoint_router.specs.declared.answer.Answer.{Answer}
use Rattle.endpoint_router.specs.declared.answer.Answer.TheVariants.{Created}
use Rattle.endpoint_router.specs.declared.routing.Routing.{Routing}
use Rattle.endpoint_router.specs.Readings.{is_end, node_of}
use Rattle.endpoint_router.specs.Routes.{AfterNudge, AfterReread, AtClear, AtNudge, AtReread, AtToldNudge, Next, Taken, TakenOrCleared}
use Rattle.endpoint_router.specs.Flights.{InClear, InNudge, InNudging, InReread, InToldNudge, IsFlying}
use Rattle.endpoint_router.specs.Went.{PostsOn, Went}
use Rattle.endpoint_router.proofs.OwnLemmas.{Own, due, goes, own_of, seen_as, stays, still_flying, told_again, turned_keeps}
use Rattle.endpoint_router.proofs.ReplyLemmas.{cleared_reply, end_is, heard_nudged, heard_replied, lost_nudging, lost_replied, or_right}
use Rattle.endpoint_router.proofs.WentLemmas.{silent, went_next, went_once, went_still}

abbrev Answered : Type 0
Answered = Result Answer NoMemory

-- the answer of a message that was taken
abbrev created : Routing → Answered
created x = Ok (Created x.id x.ttl)

not_true : (L : Type 0) → false ≡ true → L
not_true L e = let odd : false ≡ true = e in cc

-- ---- Clear

clear_met : (b : DeskView) (x : Routing) (r : Reply) → (h : Own b x InClear (Clear (OfFlight x.op)) r) → InClear h.met.stage
clear_met b x r h =
    turned_keeps InClear (λ n a here p. let odd : StageDirect n a ≡ StageClear p.0 p.1 = p.2 in cc) (λ n a here p. let odd : StageNudge n a ≡ StageClear p.0 p.1 = p.2 in cc)
    h.stage h.met.stage h.turned h.seen

clear_ends : (b : DeskView) (x : Routing) (r : Reply) → Own b x InClear (Clear (OfFlight x.op)) r → r ≡ End 201
clear_ends b x r h =
    let at = clear_met b x r h in
    let ok = due b x InClear (Clear (OfFlight x.op)) r h (refl, ap is_clear at.2) in
    end_is 201 r (or_right (is_refusal r) (is_end_reply 201 r) h.fits ok)

pub clear_went : (a b : DeskView) (x : Routing) (r : Reply) → IsFlying a x InClear → Makes a b x.shard (Clear (OfFlight x.op)) r → Mails a b [] →
    Went a b x.shard ⊥ (AtClear (created x) x)
clear_went a b x r h m mail =
    let posts = silent a b x.shard mail in
    let own = own_of a b x InClear (Clear (OfFlight x.op)) r h m posts in
    went_once a b x.shard (Clear (OfFlight x.op)) r ⊥ (Taken (created x) x) m posts (not_true ⊥) (clear_ends b x r own, refl)

-- ---- ToldNudge, where the link was heard

nudged_reply : (unkept here : Bool) (n a : ℕ) (s : Stage) → s ≡ StageToldNudge here n a → advance_reply (heard_advance unkept s) NoFlight ≡ cleared_reply here n a
nudged_reply unkept here n a s e = subst (λ z. advance_reply (heard_advance unkept z) NoFlight ≡ cleared_reply here n a) (sym e) (heard_nudged here unkept n a)

nudge_heard_reply : (b : DeskView) (x : Routing) (here : Bool) (r : Reply) → (h : Own b x (InToldNudge here) (Heard (OfFlight x.op)) r) →
    (n : ℕ) × (a : ℕ) × (h.met.stage ≡ StageToldNudge here n a) × (r ≡ cleared_reply here n a)
nudge_heard_reply b x here r h =
    let at : InToldNudge here h.met.stage =
    turned_keeps (InToldNudge here) (λ n a was p. let odd : StageDirect n a ≡ StageToldNudge here p.0 p.1 = p.2 in cc)
    (λ n a was p. let odd : StageNudge n a ≡ StageToldNudge here p.0 p.1 = p.2 in cc) h.stage h.met.stage h.turned h.seen in
    (at.0, at.1, at.2, subst (λ z. z ≡ cleared_reply here at.0 at.1) (sym (heard_replied b x (InToldNudge here) r h)) (nudged_reply (x.ttl == 0) here at.0 at.1 h.met.stage at.2))

cleared_end : (x : Routing) (here : Bool) (n a : ℕ) (r : Reply) → r ≡ cleared_reply here n a → is_end r ≡ true → TakenOrCleared (created x) x here r []
cleared_end x true n a r e h = (e, refl)
cleared_end x false n a r e h = let odd : false ≡ true = ap is_end (sym e) ∙ h in cc

cleared_on : (here : Bool) (n a : ℕ) (r : Reply) → r ≡ cleared_reply here n a → is_end r ≡ false → (here ≡ false) × (r ≡ Moved (StageClear n a))
cleared_on true n a r e h = let odd : true ≡ false = ap is_end (sym e) ∙ h in cc
cleared_on false n a r e h = (refl, e)

module _ (a b : DeskView) (x : Routing) (here : Bool) (r : Reply) (h : IsFlying a x (InToldNudge here)) (m : Makes a b x.shard (Heard (OfFlight x.op)) r) (mail : Mails a b []) where
  heard_own : Own b x (InToldNudge here) (Heard (OfFlight x.op)) r
  heard_own = own_of a b x (InToldNudge here) (Heard (OfFlight x.op)) r h m (silent a b x.shard mail)

  pub nudge_heard_ends : is_end r ≡ true → Went a b x.shard ⊥ (Next x.shard (Heard (OfFlight x.op)) (TakenOrCleared (created x) x here))
  nudge_heard_ends e =
      let said = nudge_heard_reply b x here r heard_own in
      went_once a b x.shard (Heard (OfFlight x.op)) r ⊥ (TakenOrCleared (created x) x here) m (silent a b x.shard mail) (not_true ⊥) (cleared_end x here said.0 said.1 r said.3 e)

  pub nudge_heard_flies : is_end r ≡ false → IsFlying b x InClear
  nudge_heard_flies e =
      let said = nudge_heard_reply b x here r heard_own in
      let on = cleared_on here said.0 said.1 r said.3 e in
      goes b x (InToldNudge here) (Heard (OfFlight x.op)) r heard_own InClear (StageClear said.0 said.1) (refl, ap is_told_of said.2)
      (ap (λ z. stage_after z heard_own.met.stage) on.1) (said.0, said.1, refl)

  pub nudge_heard_clears : (c : DeskView) (answer : Answered) → is_end r ≡ false → Went b c x.shard ⊥ (AtClear answer x) →
      Went a c x.shard ⊥ (Next x.shard (Heard (OfFlight x.op)) (TakenOrCleared answer x here))
  nudge_heard_clears c answer e w =
      let said = nudge_heard_reply b x here r heard_own in
      let on = cleared_on here said.0 said.1 r said.3 e in
      went_next a b c x.shard (Heard (OfFlight x.op)) r ⊥ ⊥ (AtClear answer x) (Next x.shard (Heard (OfFlight x.op)) (TakenOrCleared answer x here)) m (silent a b x.shard mail) (not_true ⊥)
      (λ l. l) w (λ ms p. (refl, refl, subst (λ z. TakenOrCleared answer x z r ms) (sym on.0) (said.0, said.1, on.1, p)))

-- ---- Nudge or ToldNudge, where the link was lost

nudging_stays : (s t : Stage) → (t ≡ s) ⊎ Turned s t → InNudging s → InNudging t
nudging_stays s t q p = turned_keeps InNudging (λ n a here z. absurd z) (λ n a here z. tt) s t q p

nudging_may_lose : (s : Stage) → InNudging s → may_lose s ≡ true
nudging_may_lose (StageNudge n a) h = refl
nudging_may_lose (StageToldNudge here n a) h = refl
nudging_may_lose s h = absurd h

module _ (a b : DeskView) (x : Routing) (r : Reply) (h : IsFlying a x InNudging) (m : Makes a b x.shard (Lost (OfFlight x.op)) r) (mail : Mails a b []) where
  lost_own : Own b x InNudging (Lost (OfFlight x.op)) r
  lost_own = own_of a b x InNudging (Lost (OfFlight x.op)) r h m (silent a b x.shard mail)

  lost_met : InNudging lost_own.met.stage
  lost_met = nudging_stays lost_own.stage lost_own.met.stage lost_own.turned lost_own.seen

  lost_reply : (n : ℕ) × (at : ℕ) × (r ≡ Moved (StageClear n at))
  lost_reply =
      let said = lost_nudging (x.ttl == 0) lost_own.met.stage lost_met in
      (said.0, said.1, lost_replied b x InNudging r lost_own ∙ said.2)

  pub nudge_lost_flies : IsFlying b x InClear
  nudge_lost_flies =
      goes b x InNudging (Lost (OfFlight x.op)) r lost_own InClear (StageClear lost_reply.0 lost_reply.1) (refl, nudging_may_lose lost_own.met.stage lost_met)
      (ap (λ z. stage_after z lost_own.met.stage) lost_reply.2) (lost_reply.0, lost_reply.1, refl)

  pub nudge_lost_clears : (c : DeskView) (answer : Answered) → Went b c x.shard ⊥ (AtClear answer x) →
      Went a c x.shard (Unit {0}) (Next x.shard (Lost (OfFlight x.op)) (TakenOrCleared answer x false))
  nudge_lost_clears c answer w =
      went_next a b c x.shard (Lost (OfFlight x.op)) r (Unit {0}) ⊥ (AtClear answer x) (Next x.shard (Lost (OfFlight x.op)) (TakenOrCleared answer x false)) m (silent a b x.shard mail)
      (λ e. tt) (λ l. tt) w (λ ms p. (refl, refl, (lost_reply.0, lost_reply.1, lost_reply.2, p)))

-- ---- Nudge

abbrev pub linked_as : Bool → Linked
linked_as true = LinkedHere
linked_as false = LinkedNotHere

-- The step Nudge was made, and the flight was told whether the session was: by this step, or by another pass before.
pub record NudgeTold (b : DeskView) (x : Routing) (r : Reply) : Type 0 where
  pub here : Bool
  pub says : answer_of r ≡ linked_as here
  pub flying : IsFlying b x (InToldNudge here)
  pub follows : (answer : Answered) (ms : List Made) → AtToldNudge answer x here ms → AfterNudge answer x r ms

nudge_replied : (b : DeskView) (x : Routing) (s : Stage) (n a : ℕ) (r : Reply) → s ≡ StageNudge n a → is_told_reply r ≡ true →
    ((here : Bool) → stage_after r s ≡ Some (StageToldNudge here n a) → IsFlying b x (InToldNudge here)) → NudgeTold b x r
nudge_replied b x s n a (Here u) e t f = record { here = true; says = refl; flying = f true (ap (told_stage true) e); follows = λ answer ms p. p }
nudge_replied b x s n a NotHere e t f = record { here = false; says = refl; flying = f false (ap (told_stage false) e); follows = λ answer ms p. p }
nudge_replied b x s n a r e t f = let odd : false ≡ true = t in cc

again_says : (here : Bool) (n a : ℕ) → answer_of (StageIs (StageToldNudge here n a)) ≡ linked_as here
again_says true n a = refl
again_says false n a = refl

nudge_again : (b : DeskView) (x : Routing) (s : Stage) (here : Bool) (n a : ℕ) (r : Reply) → s ≡ StageToldNudge here n a → r ≡ StageIs s → IsFlying b x (InToldNudge here) → NudgeTold b x r
nudge_again b x s here n a r e q f =
    let is : r ≡ StageIs (StageToldNudge here n a) = q ∙ ap (λ z. StageIs z) e in
    subst (λ z. NudgeTold b x z) (sym is) (record { here = here; says = again_says here n a; flying = f; follows = λ answer ms p. p })

-- the stage that a Nudge meets
met_nudge : (s t : Stage) → (t ≡ s) ⊎ Turned s t → InNudge s → InNudge t ⊎ ((here : Bool) × InToldNudge here t)
met_nudge s t (inl e) p = inl (p.0, p.1, e ∙ p.2)
met_nudge (StageDirect n a) t (inr q) p = let odd : StageDirect n a ≡ StageNudge p.0 p.1 = p.2 in cc
met_nudge (StageNudge n a) t (inr (inl q)) p = absurd q
met_nudge (StageNudge n a) t (inr (inr q)) p = inr (q.0, (n, a, q.1))
met_nudge s t (inr (inl q)) p = absurd q
met_nudge s t (inr (inr q)) p = absurd q

module _ (a b : DeskView) (x : Routing) (r : Reply) (h : IsFlying a x InNudge) (m : Makes a b x.shard (Nudge (OfFlight x.op)) r) (mail : PostsOn a b x.shard) where
  nudge_own : Own b x InNudge (Nudge (OfFlight x.op)) r
  nudge_own = own_of a b x InNudge (Nudge (OfFlight x.op)) r h m mail

  nudge_first : InNudge nudge_own.met.stage → NudgeTold b x r
  nudge_first p =
      let fit = due b x InNudge (Nudge (OfFlight x.op)) r nudge_own (refl, ap is_nudge p.2) in
      nudge_replied b x nudge_own.met.stage p.0 p.1 r p.2 (or_right (is_refusal r) (is_told_reply r) nudge_own.fits fit)
      (λ here e. goes b x InNudge (Nudge (OfFlight x.op)) r nudge_own (InToldNudge here) (StageToldNudge here p.0 p.1) (refl, ap is_nudge p.2) e (p.0, p.1, refl))

  nudge_second : (here : Bool) → InToldNudge here nudge_own.met.stage → NudgeTold b x r
  nudge_second here p =
      let again : (x.op ≡ x.op) × (is_nudge nudge_own.met.stage ≡ false) = (refl, ap is_nudge p.2) in
      nudge_again b x nudge_own.met.stage here p.0 p.1 r p.2 (told_again b x InNudge (Nudge (OfFlight x.op)) r nudge_own again)
      (stays b x InNudge (Nudge (OfFlight x.op)) r nudge_own (InToldNudge here) again p)

  pub nudge_told : NudgeTold b x r
  nudge_told = elim (met_nudge nudge_own.stage nudge_own.met.stage nudge_own.turned nudge_own.seen) [ inl p ↦ nudge_first p | inr q ↦ nudge_second q.0 q.1 ]

pub same_link : (p q : Bool) → linked_as p ≡ linked_as q → p ≡ q
same_link true true e = refl
same_link true false e = let odd : LinkedHere ≡ LinkedNotHere = e in cc
same_link false true e = let odd : LinkedNotHere ≡ LinkedHere = e in cc
same_link false false e = refl

-- where the link says so
module _ (a b : DeskView) (x : Routing) (here : Bool) (h : IsFlying a x InNudge) (s : Says a b x.shard (Nudge (OfFlight x.op)) (linked_as here)) (mail : PostsOn a b x.shard) where
  said : NudgeTold b x s.0
  said = nudge_told a b x s.0 h s.2 mail

  said_here : said.here ≡ here
  said_here = same_link said.here here (sym said.says ∙ s.1)

  pub nudge_said_flies : IsFlying b x (InToldNudge here)
  nudge_said_flies = subst (λ z. IsFlying b x (InToldNudge z)) said_here said.flying

  pub nudge_said_went : (c : DeskView) (L : Type 0) (answer : Answered) → Went b c x.shard ⊥ (Next x.shard (Heard (OfFlight x.op)) (TakenOrCleared answer x here)) →
      Went a c x.shard L (AtNudge answer x)
  nudge_said_went c L answer w =
      went_next a b c x.shard (Nudge (OfFlight x.op)) s.0 L ⊥ (Next x.shard (Heard (OfFlight x.op)) (TakenOrCleared answer x here)) (AtNudge answer x) s.2 mail (not_true L)
      (λ l. absurd l) w (λ ms p. inl (refl, refl, said.follows answer ms (subst (λ z. AtToldNudge answer x z ms) (sym said_here) (inl p))))

-- where the link was lost
module _ (a b : DeskView) (x : Routing) (h : IsFlying a x InNudge) (mail : PostsOn a b x.shard) where
  nudging : (s : Stage) → InNudge s → InNudging s
  nudging s p = subst InNudging (sym p.2) tt

  nudged : (here : Bool) (s : Stage) → InToldNudge here s → InNudging s
  nudged here s p = subst InNudging (sym p.2) tt

  pub nudge_loss_flies : Calls a b [] ⊎ ((r : Reply) × Makes a b x.shard (Nudge (OfFlight x.op)) r) → IsFlying b x InNudging
  nudge_loss_flies (inl c) = seen_as b x InNudge InNudging nudging (still_flying a b x InNudge h c mail)
  nudge_loss_flies (inr m) = let t = nudge_told a b x m.0 h m.1 mail in seen_as b x (InToldNudge t.here) InNudging (nudged t.here) t.flying

  pub nudge_loss_went : (c : DeskView) (L : Type 0) (answer : Answered) → Calls a b [] ⊎ ((r : Reply) × Makes a b x.shard (Nudge (OfFlight x.op)) r) → L →
      Went b c x.shard (Unit {0}) (Next x.shard (Lost (OfFlight x.op)) (TakenOrCleared answer x false)) → Went a c x.shard L (AtNudge answer x)
  nudge_loss_went c L answer (inl still) l w =
      went_still a b c x.shard L (Unit {0}) (Next x.shard (Lost (OfFlight x.op)) (TakenOrCleared answer x false)) (AtNudge answer x) still mail (λ u. l) w (λ ms p. inr p)
  nudge_loss_went c L answer (inr m) l w =
      let t = nudge_told a b x m.0 h m.1 mail in
      went_next a b c x.shard (Nudge (OfFlight x.op)) m.0 L (Unit {0}) (Next x.shard (Lost (OfFlight x.op)) (TakenOrCleared answer x false)) (AtNudge answer x) m.1 mail (not_true L)
      (λ u. l) w (λ ms p. inl (refl, refl, t.follows answer ms (inr p)))

-- ---- Reread

reread_met : (b : DeskView) (x : Routing) (r : Reply) → (h : Own b x InReread (Reread (OfFlight x.op)) r) → InReread h.met.stage
reread_met b x r h =
    turned_keeps InReread (λ n a here p. let odd : StageDirect n a ≡ StageReread = p in cc) (λ n a here p. let odd : StageNudge n a ≡ StageReread = p in cc)
    h.stage h.met.stage h.turned h.seen

read_end : (answer : Answered) (x : Routing) (r : Reply) (ms : List Made) → is_read_reply 201 r ≡ true → node_of r ≡ None → (r ≡ End 201 → Taken answer x r ms) → AfterReread answer x r ms
read_end answer x (Names n a) ms e h f = let odd : Some n ≡ None = h in cc
read_end answer x r ms e h f = f (end_is 201 r e)

-- the session that the route row names
named : (r : Reply) (n : ℕ) → node_of r ≡ Some n → (a : ℕ) × (r ≡ Names n a)
named (Names m a) n e = let same : m ≡ n = cc in (a, ap (λ z. Names z a) same)
named r n e = let odd : None ≡ Some n = e in cc

module _ (a b : DeskView) (x : Routing) (r : Reply) (h : IsFlying a x InReread) (m : Makes a b x.shard (Reread (OfFlight x.op)) r) (mail : Mails a b []) where
  reread_own : Own b x InReread (Reread (OfFlight x.op)) r
  reread_own = own_of a b x InReread (Reread (OfFlight x.op)) r h m (silent a b x.shard mail)

  reread_due : (x.op ≡ x.op) × (is_reread reread_own.met.stage ≡ true)
  reread_due = (refl, ap is_reread (reread_met b x r reread_own))

  pub reread_ends : (L : Type 0) → node_of r ≡ None → Went a b x.shard L (AtReread (created x) x)
  reread_ends L e =
      let fit = due b x InReread (Reread (OfFlight x.op)) r reread_own reread_due in
      went_once a b x.shard (Reread (OfFlight x.op)) r L (AfterReread (created x) x) m (silent a b x.shard mail) (not_true L)
      (read_end (created x) x r [] (or_right (is_refusal r) (is_read_reply 201 r) reread_own.fits fit) e (λ q. (q, refl)))

  pub reread_flies : (n : ℕ) → node_of r ≡ Some n → IsFlying b x InNudge
  reread_flies n e =
      let is = named r n e in
      goes b x InReread (Reread (OfFlight x.op)) r reread_own InNudge (StageNudge n is.0) reread_due (ap (λ z. stage_after z reread_own.met.stage) is.1) (n, is.0, refl)

  pub reread_went : (c : DeskView) (L : Type 0) (answer : Answered) (n : ℕ) → node_of r ≡ Some n → Went b c x.shard L (AtNudge answer x) → Went a c x.shard L (AtReread answer x)
  reread_went c L answer n e w =
      let is = named r n e in
      went_next a b c x.shard (Reread (OfFlight x.op)) r L L (AtNudge answer x) (AtReread answer x) m (silent a b x.shard mail) (not_true L) (λ l. l) w
      (λ ms p. (refl, refl, subst (λ z. AfterReread answer x z ms) (sym is.1) p))
