-- A flight whose message is to be stored, and one that is given up.
use Rattle.std.proofs.Common.{◌≡◌, ℕ, true, false, inl, inr, [], refl, sym, ap, subst}
use Rattle.std.specs.Prelude.{Some, None, Result, Ok, IsErr}
use Rattle.push_model.specs.declared.entry.NoMemory.{NoMemory}
use Rattle.push_model.specs.declared.step.Stage.{Stage}
use Rattle.push_model.specs.declared.step.Stage.TheVariants.{Direct as StageDirect, Told as StageTold, Store as StageStore, Reread as StageReread, Nudge as StageNudge}
use Rattle.push_model.specs.declared.step.Step.TheVariants.{Store, GiveUp}
use Rattle.push_model.specs.declared.reply.Reply.{Reply}
use Rattle.push_model.specs.declared.reply.Reply.TheVariants.{Stored, End}
use Rattle.push_model.specs.OwnSteps.{is_store, may_give_up, stage_after}
use Rattle.push_model.specs.Replies.{is_end_reply, is_refusal, is_store_reply}
use Rattle.push_model.specs.DeskViews.{Calls, DeskView, Mails}
use Rattle.node_routes.specs.Links.{Makes}
use Rattle.endpoint_router.specs.declared.answer.Answer.{Answer}
use Rattle.endpoint_router.specs.declared.routing.Routing.{Routing}
use Rattle.endpoint_router.specs.Readings.{answer_to, code_of}
use Rattle.endpoint_router.specs.Routes.{AfterStore, AtReread, AtStore, GivenUp, Next}
use Rattle.endpoint_router.specs.Flights.{InReread, InStore, InUnstored, IsFlying}
use Rattle.endpoint_router.specs.Went.{Went}
use Rattle.endpoint_router.proofs.OwnLemmas.{Own, due, goes, own_of, seen_as, still_flying, turned_keeps}
use Rattle.endpoint_router.proofs.ReplyLemmas.{end_is, or_right}
use Rattle.endpoint_router.proofs.WentLemmas.{silent, went_next, went_once, went_still}

abbrev Answered : Type 0
Answered = Result Answer NoMemory

not_true : (L : Type 0) → false ≡ true → L
not_true L e = let odd : false ≡ true = e in cc

-- ---- GiveUp

unstored_may : (s : Stage) → InUnstored s → may_give_up s ≡ true
unstored_may (StageDirect n a) h = refl
unstored_may (StageTold here) h = refl
unstored_may StageStore h = refl
unstored_may s h = absurd h

pub give_up_went : (a b : DeskView) (x : Routing) (r : Reply) (answer : Answered) → IsFlying a x InUnstored → Makes a b x.shard (GiveUp x.op) r → Mails a b [] → IsErr answer →
    Went a b x.shard ⊥ (Next x.shard (GiveUp x.op) (GivenUp answer x))
give_up_went a b x r answer h m mail e =
    let posts = silent a b x.shard mail in
    let own = own_of a b x InUnstored (GiveUp x.op) r h m posts in
    let at : InUnstored own.met.stage = turned_keeps InUnstored (λ n a here p. tt) (λ n a here p. absurd p) own.stage own.met.stage own.turned own.seen in
    let ok = due b x InUnstored (GiveUp x.op) r own (refl, unstored_may own.met.stage at) in
    went_once a b x.shard (GiveUp x.op) r ⊥ (GivenUp answer x) m posts (not_true ⊥) (end_is 500 r (or_right (is_refusal r) (is_end_reply 500 r) own.fits ok), e)

-- ---- Store

store_met : (b : DeskView) (x : Routing) (r : Reply) → (h : Own b x InStore (Store x.op) r) → InStore h.met.stage
store_met b x r h =
    turned_keeps InStore (λ n a here p. let odd : StageDirect n a ≡ StageStore = p in cc) (λ n a here p. let odd : StageNudge n a ≡ StageStore = p in cc)
    h.stage h.met.stage h.turned h.seen

coded : (r : Reply) (code : ℕ) → code_of r ≡ Some code → r ≡ End code
coded (End n) code e = let same : n ≡ code = cc in ap End same
coded r code e = let odd : None ≡ Some code = e in cc

uncoded : (r : Reply) → code_of r ≡ None → is_store_reply r ≡ true → r ≡ Stored
uncoded (End n) e h = let odd : Some n ≡ None = e in cc
uncoded Stored e h = refl
uncoded r e h = let odd : false ≡ true = h in cc

module _ (a b : DeskView) (x : Routing) (r : Reply) (h : IsFlying a x InStore) (m : Makes a b x.shard (Store x.op) r) (mail : Mails a b []) where
  store_own : Own b x InStore (Store x.op) r
  store_own = own_of a b x InStore (Store x.op) r h m (silent a b x.shard mail)

  store_due : (x.op ≡ x.op) × (is_store store_own.met.stage ≡ true)
  store_due = (refl, ap is_store (store_met b x r store_own))

  store_fits : is_store_reply r ≡ true
  store_fits = or_right (is_refusal r) (is_store_reply r) store_own.fits (due b x InStore (Store x.op) r store_own store_due)

  pub store_ends : (L : Type 0) (code : ℕ) (said : Answer) → code_of r ≡ Some code → said ≡ answer_to x.id x.ttl code → Went a b x.shard L (AtStore (Ok said) x)
  store_ends L code said e q =
      let answer : Answered = Ok said in
      let is = coded r code e in
      let w : Went a b x.shard L (Next x.shard (Store x.op) (AfterStore answer x)) =
      went_once a b x.shard (Store x.op) r L (AfterStore answer x) m (silent a b x.shard mail) (not_true L)
      (subst (λ z. AfterStore answer x z []) (sym is) (subst (λ z. is_store_reply z ≡ true) is store_fits, ap (λ z. Ok z) q)) in
      record { entries = w.entries; calls = w.calls; are = inl w.are; mail = w.mail; losses = w.losses }

  pub store_flies : code_of r ≡ None → IsFlying b x InReread
  store_flies e =
      goes b x InStore (Store x.op) r store_own InReread StageReread store_due (ap (λ z. stage_after z store_own.met.stage) (uncoded r e store_fits)) refl

  pub store_went : (c : DeskView) (L : Type 0) (answer : Answered) → code_of r ≡ None → Went b c x.shard L (AtReread answer x) → Went a c x.shard L (AtStore answer x)
  store_went c L answer e w =
      went_next a b c x.shard (Store x.op) r L L (AtReread answer x) (AtStore answer x) m (silent a b x.shard mail) (not_true L) (λ l. l) w
      (λ ms p. inl (refl, refl, subst (λ z. AfterStore answer x z ms) (sym (uncoded r e store_fits)) p))

-- where memory was wanted
unstored : (s : Stage) → InStore s → InUnstored s
unstored s p = subst InUnstored (sym p) tt

pub store_stays : (a b : DeskView) (x : Routing) → IsFlying a x InStore → Calls a b [] → Mails a b [] → IsFlying b x InUnstored
store_stays a b x h c mail = seen_as b x InStore InUnstored unstored (still_flying a b x InStore h c (silent a b x.shard mail))

pub store_gives_up : (a b c : DeskView) (x : Routing) (L : Type 0) (answer : Answered) → Calls a b [] → Mails a b [] →
    Went b c x.shard ⊥ (Next x.shard (GiveUp x.op) (GivenUp answer x)) → Went a c x.shard L (AtStore answer x)
store_gives_up a b c x L answer still mail w =
    went_still a b c x.shard L ⊥ (Next x.shard (GiveUp x.op) (GivenUp answer x)) (AtStore answer x) still (silent a b x.shard mail) (λ l. absurd l) w (λ ms p. inr p)
