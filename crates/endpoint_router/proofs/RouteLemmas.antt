-- The whole route: its first two steps, and what it leaves.
use Rattle.std.proofs.Common.{◌≡◌, ℕ, ◌<◌, ◌≤◌, ◌==◌, Bool, true, false, inl, inr, List, [], ◌∷◌, refl, sym, ap, subst, ◌∙◌, arith}
use Rattle.std.specs.Prelude.{Some, None, Result, Ok, IsErr}
use Rattle.std.proofs.lemmas.Bool.{eq-eqb}
use Rattle.push_model.specs.declared.entry.NoMemory.{NoMemory}
use Rattle.push_model.specs.declared.ids.Op.{Op}
use Rattle.push_model.specs.declared.ids.Token.{Token}
use Rattle.push_model.specs.declared.ids.MsgId.{MsgId}
use Rattle.push_model.specs.declared.step.Stage.{Stage}
use Rattle.push_model.specs.declared.step.Stage.TheVariants.{Direct as StageDirect, Store as StageStore}
use Rattle.push_model.specs.declared.step.Step.TheVariants.{Tick, Begin}
use Rattle.push_model.specs.declared.reply.Reply.{Reply}
use Rattle.push_model.specs.declared.reply.Reply.TheVariants.{Done, NoToken, IdsSpent, Begun, Stage as StageIs}
use Rattle.push_model.specs.AskValue.{AskValue}
use Rattle.push_model.specs.Replies.{is_done}
use Rattle.push_model.specs.Worlds.{start}
use Rattle.push_model.specs.Steps.{step}
use Rattle.push_model.specs.Histories.{IsLegal}
use Rattle.push_model.specs.Accounting.{IsAccounted}
use Rattle.push_model.specs.Caring.{is_cared}
use Rattle.push_model.specs.Frames.{flight_at}
use Rattle.push_model.specs.OwnSteps.{IsBegun, IsNew, IsUnrouted}
use Rattle.push_model.specs.DeskViews.{Calls, DeskView, IsHonest, Made, Mails, made, world_at}
use Rattle.push_model.proofs.DeskLemmas.{calls_none, honest_after, mails_none}
use Rattle.push_model.proofs.Routes.{fresh_absent, honest_reached, own_begins, own_waits}
use Rattle.push_model.proofs.Accounted.{accounted}
use Rattle.push_model.proofs.Reached.{reached_cared}
use Rattle.push_outside.specs.Counts.{Rose, next_count}
use Rattle.node_routes.specs.Links.{Makes}
use Rattle.endpoint_router.specs.declared.answer.Answer.{Answer}
use Rattle.endpoint_router.specs.declared.answer.Answer.TheVariants.{Created, Gone, IdsSpent as NoIds}
use Rattle.endpoint_router.specs.declared.replies.Begins.TheVariants.{Ends, Gives, Stores}
use Rattle.endpoint_router.specs.declared.routing.Routing.{Routing}
use Rattle.endpoint_router.specs.Readings.{begins_of, begins_unrouted}
use Rattle.endpoint_router.specs.Routes.{AfterBegin, AtDirect, AtStore, IsRoute, Next, Unrouted, Wants}
use Rattle.endpoint_router.specs.Flights.{HasBegun, InDirect, InStore, IsFlying, IsFresh}
use Rattle.endpoint_router.specs.Went.{Went}
use Rattle.endpoint_router.proofs.WentLemmas.{silent, went_next}

abbrev Answered : Type 0
Answered = Result Answer NoMemory

not_true : (L : Type 0) → false ≡ true → L
not_true L e = let odd : false ≡ true = e in cc

-- ---- counts of faults

later : (f g h : ℕ) → f ≤ g → g ≤ h → f ≤ h
later f g h p q = omega arith

pub rose_later : (f g h : ℕ) → Rose f g → g ≤ h → Rose f h
rose_later f g h p q = later (next_count f) g h p q

-- ---- a part that makes no entry

pub went_none : (a : DeskView) (k : ℕ) (L : Type 0) (P : List Made → Type 0) → P [] → Went a a k L P
went_none a k L P p = record { entries = []; calls = calls_none a; are = p; mail = silent a a k (mails_none a); losses = not_true L }

-- ---- Begin

module _ (v : DeskView) (k : ℕ) (o : Op) (ttl : ℕ) where
  abbrev flight_of : MsgId → Routing
  flight_of i = record { shard = k; op = o; id = i; ttl = ttl }

  unrouted_ends : (answer : Answered) (b : Bool) (i : MsgId) (said : Answer) → begins_unrouted b i ttl ≡ Ends said → answer ≡ Ok said → Unrouted k o ttl answer b i []
  unrouted_ends answer true i said e q = let same : Created i ttl ≡ said = cc in q ∙ ap (λ z. Ok z) (sym same)
  unrouted_ends answer false i said e q = let odd : Stores i ≡ Ends said = e in cc

  pub begin_ends : (r : Reply) (said : Answer) → HasBegun v k o ttl r → begins_of ttl r ≡ Ends said → AfterBegin k o ttl (Ok said) r []
  begin_ends (Begun i (Some p)) said h e = let odd : Gives i p.0 ≡ Ends said = e in cc
  begin_ends (Begun i None) said h e = unrouted_ends (Ok said) (ttl == 0) i said e refl
  begin_ends IdsSpent said h e = let same : NoIds ≡ said = cc in ap (λ z. Ok z) (sym same)
  begin_ends NoToken said h e = let same : Gone ≡ said = cc in ap (λ z. Ok z) (sym same)
  begin_ends (StageIs s) said h e = absurd (h.unused s refl)
  begin_ends r said h e = not_true _ h.fits

  no_stores : (b : Bool) (i j : MsgId) (n : ℕ) → begins_unrouted b i ttl ≡ Gives j n → ⊥
  no_stores true i j n e = cc
  no_stores false i j n e = cc

  -- the session that the message goes to
  pub begin_gives : (r : Reply) (i : MsgId) (n : ℕ) → begins_of ttl r ≡ Gives i n → (a : ℕ) × (r ≡ Begun i (Some (n, a)))
  begin_gives (Begun j (Some p)) i n e =
      let id : j ≡ i = cc in
      let node : p.0 ≡ n = cc in
      (p.1, ap (λ z. Begun z (Some p)) id ∙ ap (λ z. Begun i (Some (z, p.1))) node)
  begin_gives (Begun j None) i n e = absurd (no_stores (ttl == 0) j i n e)
  begin_gives IdsSpent i n e = cc
  begin_gives r i n e = cc

  unrouted_stores : (b : Bool) (i j : MsgId) → begins_unrouted b i ttl ≡ Stores j → (b ≡ false) × (i ≡ j)
  unrouted_stores true i j e = cc
  unrouted_stores false i j e = (refl, cc)

  pub begin_stores : (r : Reply) (i : MsgId) → begins_of ttl r ≡ Stores i → (r ≡ Begun i None) × ((ttl == 0) ≡ false)
  begin_stores (Begun j (Some p)) i e = cc
  begin_stores (Begun j None) i e = let t = unrouted_stores (ttl == 0) j i e in (ap (λ z. Begun z None) t.1, t.0)
  begin_stores IdsSpent i e = cc
  begin_stores r i e = cc

  -- a new flight is on its way
  new_flies : (r : Reply) (i : MsgId) (s : Stage) (P : Stage → Type 0) → (h : HasBegun v k o ttl r) → IsNew o h.token h.ask i s (flight_at o (world_at v k)) → P s →
      IsFlying v (flight_of i) P
  new_flies r i s P h n p = record {
    honest = h.honest;
    within = h.within;
    number = h.number;
    signs = h.signs;
    flight = record { op = o; message = n.message; token = h.token; stage = s };
    is = n.is;
    stage = p;
    ttl = ap (λ z. z.terms.ttl) n.ask ∙ h.asked;
  }

  pub gives_flies : (r : Reply) (i : MsgId) (n : ℕ) → HasBegun v k o ttl r → begins_of ttl r ≡ Gives i n → IsFlying v (flight_of i) InDirect
  gives_flies r i n h e =
      let is = begin_gives r i n e in
      let new = subst (λ z. IsBegun o h.token h.ask z (flight_at o (world_at v k))) is.1 h.begun in
      new_flies r i (StageDirect n is.0) InDirect h new (n, is.0, refl)

  kept_new : (t : Token) (a : AskValue) (i : MsgId) (b : Bool) → b ≡ false → IsUnrouted b o t a i (flight_at o (world_at v k)) → IsNew o t a i StageStore (flight_at o (world_at v k))
  kept_new t a i true e h = let odd : true ≡ false = e in cc
  kept_new t a i false e h = h

  pub stores_flies : (r : Reply) (i : MsgId) → HasBegun v k o ttl r → begins_of ttl r ≡ Stores i → IsFlying v (flight_of i) InStore
  stores_flies r i h e =
      let is = begin_stores r i e in
      let kept : (h.ask.terms.ttl == 0) ≡ false = ap (λ z. z == 0) h.asked ∙ is.1 in
      let new = subst (λ z. IsBegun o h.token h.ask z (flight_at o (world_at v k))) is.0 h.begun in
      new_flies r i StageStore InStore h (kept_new h.token h.ask i (h.ask.terms.ttl == 0) kept new) refl

  wider : (b : DeskView) (L : Type 0) (P Q : List Made → Type 0) → ((ms : List Made) → P ms → Q ms) → Went v b k L P → Went v b k L Q
  wider b L P Q f w = record { entries = w.entries; calls = w.calls; are = f w.entries w.are; mail = w.mail; losses = w.losses }

  pub gives_went : (b : DeskView) (L : Type 0) (answer : Answered) (r : Reply) (i : MsgId) (n : ℕ) → begins_of ttl r ≡ Gives i n →
      Went v b k L (AtDirect answer (flight_of i)) → Went v b k L (AfterBegin k o ttl answer r)
  gives_went b L answer r i n e w =
      let is = begin_gives r i n e in
      wider b L (AtDirect answer (flight_of i)) (AfterBegin k o ttl answer r) (λ ms p. subst (λ z. AfterBegin k o ttl answer z ms) (sym is.1) p) w

  pub stores_went : (b : DeskView) (L : Type 0) (answer : Answered) (r : Reply) (i : MsgId) → begins_of ttl r ≡ Stores i →
      Went v b k L (AtStore answer (flight_of i)) → Went v b k L (AfterBegin k o ttl answer r)
  stores_went b L answer r i e w =
      let is = begin_stores r i e in
      wider b L (AtStore answer (flight_of i)) (AfterBegin k o ttl answer r)
      (λ ms p. subst (λ z. AfterBegin k o ttl answer z ms) (sym is.0) (subst (λ z. Unrouted k o ttl answer z i ms) (sym is.1) p)) w

-- ---- Tick, and then Begin

done_is : (r : Reply) → is_done r ≡ true → r ≡ Done
done_is Done e = refl
done_is r e = let odd : false ≡ true = e in cc

module _ (a m : DeskView) (k now : ℕ) (o : Op) (r : Reply) (h : IsHonest a) (f : IsFresh a k o) (low : k < a.size) (t : Makes a m k (Tick now) r) (mail : Mails a m []) where
  ticked_honest : IsHonest m
  ticked_honest = honest_after a m (made k (Tick now) r ∷ []) [] t.calls mail h

  ticked_number : m.number k ≡ o.pass
  ticked_number = t.calls.same.number k ∙ f.number

  ticked_absent : flight_at o (world_at m k) ≡ None
  ticked_absent = own_waits a m k (Tick now) r o h t.calls.same f.number t.last refl (fresh_absent a k o h f.number f.opened f.own)

  pub ticked_within : k < m.size
  ticked_within = subst (λ n. k < n) (sym t.calls.same.size) low

  pub ticked_signs : (o.pass == m.number k) ≡ true
  ticked_signs = eq-eqb o.pass (m.number k) (sym ticked_number)

  module _ (b : DeskView) (tok : Token) (ask : AskValue) (q : Reply) (g : Makes m b k (Begin o tok ask) q) (silence : Mails m b []) where
    pub has_begun : HasBegun b k o ask.terms.ttl q
    has_begun =
        let same = g.calls.same in
        let number : b.number k ≡ m.number k = same.number k in
        let begun = own_begins m b k tok ask q o ticked_honest same ticked_number g.last ticked_absent in
        record {
          honest = honest_after m b (made k (Begin o tok ask) q ∷ []) [] g.calls silence ticked_honest;
          within = subst (λ n. k < n) (sym same.size) ticked_within;
          number = number ∙ ticked_number;
          signs = subst (λ n. (o.pass == n) ≡ true) (sym number) ticked_signs;
          fits = g.fits;
          unused = begun.0;
          token = tok;
          ask = ask;
          asked = refl;
          begun = begun.1;
        }

    pub route_went : (c : DeskView) (L : Type 0) (answer : Answered) → Went b c k L (AfterBegin k o ask.terms.ttl answer q) → Went a c k L (IsRoute k o now tok ask answer)
    route_went c L answer w =
        let then : Went m c k L (Next k (Begin o tok ask) (AfterBegin k o ask.terms.ttl answer)) =
        went_next m b c k (Begin o tok ask) q L L (AfterBegin k o ask.terms.ttl answer q) (Next k (Begin o tok ask) (AfterBegin k o ask.terms.ttl answer)) g (silent m b k silence) (not_true L)
        (λ l. l) w (λ ms p. (refl, refl, p)) in
        went_next a m c k (Tick now) r L L (Next k (Begin o tok ask) (AfterBegin k o ask.terms.ttl answer)) (IsRoute k o now tok ask answer) t (silent a m k mail) (not_true L) (λ l. l) then
        (λ ms p. (refl, refl, (done_is r t.fits, inl p)))

  -- where Begin wanted memory
  pub route_wants : (b : DeskView) (tok : Token) (ask : AskValue) (L : Type 0) (answer : Answered) → Calls m b [] → Mails m b [] → IsErr answer → Went a b k L (IsRoute k o now tok ask answer)
  route_wants b tok ask L answer c silence e =
      let none : Went m b k L (Wants answer) = record { entries = []; calls = c; are = e; mail = silent m b k silence; losses = not_true L } in
      went_next a m b k (Tick now) r L L (Wants answer) (IsRoute k o now tok ask answer) t (silent a m k mail) (not_true L) (λ l. l) none (λ ms p. (refl, refl, (done_is r t.fits, inr p)))

-- ---- the same on the token's shard, which is s, with the ttl that was read before

module _ (a m : DeskView) (k s now : ℕ) (o : Op) (r : Reply) (e : k ≡ s) (h : IsHonest a) (f : IsFresh a s o) (low : k < a.size) (t : Makes a m k (Tick now) r) (mail : Mails a m []) where
  fresh_too : IsFresh a k o
  fresh_too = subst (λ z. IsFresh a z o) (sym e) f

  pub then_within : k < m.size
  then_within = ticked_within a m k now o r h fresh_too low t mail

  pub then_signs : (o.pass == m.number k) ≡ true
  then_signs = ticked_signs a m k now o r h fresh_too low t mail

  pub then_wants : (b : DeskView) (tok : Token) (ask : AskValue) (L : Type 0) (answer : Answered) → Calls m b [] → Mails m b [] → IsErr answer → Went a b s L (IsRoute s o now tok ask answer)
  then_wants b tok ask L answer c silence w =
      subst (λ z. Went a b z L (IsRoute z o now tok ask answer)) e (route_wants a m k now o r h fresh_too low t mail b tok ask L answer c silence w)

  module _ (b : DeskView) (tok : Token) (ask : AskValue) (n : ℕ) (q : Reply) (same : ask.terms.ttl ≡ n) (g : Makes m b k (Begin o tok ask) q) (silence : Mails m b []) where
    pub then_begun : HasBegun b k o n q
    then_begun = subst (λ z. HasBegun b k o z q) same (has_begun a m k now o r h fresh_too low t mail b tok ask q g silence)

    pub then_went : (c : DeskView) (L : Type 0) (answer : Answered) → Went b c k L (AfterBegin k o n answer q) → Went a c s L (IsRoute s o now tok ask answer)
    then_went c L answer w =
        let went = subst (λ z. Went b c k L (AfterBegin k o z answer q)) (sym same) w in
        subst (λ z. Went a c z L (IsRoute z o now tok ask answer)) e (route_went a m k now o r h fresh_too low t mail b tok ask q g silence c L answer went)

-- ---- what the whole route leaves

module _ (a b : DeskView) (k : ℕ) (L : Type 0) (P : List Made → Type 0) (h : IsHonest a) (w : Went a b k L P) where
  pub went_honest : IsHonest b
  went_honest = honest_after a b w.entries w.mail.0 w.calls w.mail.2 h

  pub went_accounted : (number next : ℕ) → b.opened k ≡ start number next → IsAccounted (start number next) (b.seen k)
  went_accounted number next is = accounted number next (b.seen k) (subst (λ z. IsLegal step z (b.seen k)) is (went_honest.legal k))

  pub went_cared : is_cared (world_at b k) ≡ true
  went_cared = reached_cared (world_at b k) (honest_reached b k went_honest)
