-- A route begins its own flight alone, so the numbers of flights above it stay new.
use Rattle.std.proofs.Common.{◌≡◌, ◌⊎◌, ℕ, ◌+◌, ◌<◌, ◌≤◌, ◌/◌, ◌==◌, ◌&&◌, Bool, true, false, cond, inl, inr, List, [], ◌∷◌, ◌++◌, refl, ap, sym, subst, ◌∙◌, arith, eq-eqb}
use Rattle.std.specs.Prelude.{Option, Some, None, Result, IsErr}
use Rattle.push_model.specs.declared.entry.Entry.{Entry}
use Rattle.push_model.specs.declared.entry.NoMemory.{NoMemory}
use Rattle.push_model.specs.declared.ids.Op.{Op}
use Rattle.push_model.specs.declared.ids.Token.{Token}
use Rattle.push_model.specs.declared.ids.MsgId.{MsgId}
use Rattle.push_model.specs.declared.step.Actor.TheVariants.{Flight as OfFlight}
use Rattle.push_model.specs.declared.step.Stage.TheVariants.{Told as IsTold, ToldNudge as IsToldNudge}
use Rattle.push_model.specs.declared.step.Step.{Step}
use Rattle.push_model.specs.declared.step.Step.TheVariants.{Tick, Begin, Direct, Store, GiveUp, Reread, Nudge, Heard, Lost, Clear}
use Rattle.push_model.specs.declared.reply.Reply.{Reply}
use Rattle.push_model.specs.declared.reply.Reply.TheVariants.{NoToken, IdsSpent, Begun, Here, NotHere, Stage as StageIs, Stored, Names, End}
use Rattle.push_model.specs.AskValue.{AskValue}
use Rattle.push_model.specs.Histories.{entry}
use Rattle.push_model.specs.Frames.{NoBegin, flight_at, is_begin_of}
use Rattle.push_model.specs.Names.{is_same_op}
use Rattle.push_model.specs.Worlds.{start}
use Rattle.push_model.specs.DeskViews.{Calls, DeskView, Made, entries_at, is_on, made, own_entries}
use Rattle.endpoint_router.specs.declared.answer.Answer.{Answer}
use Rattle.endpoint_router.specs.declared.routing.Routing.{Routing}
use Rattle.endpoint_router.specs.Routes.{AfterBegin, AfterDirect, AfterNudge, AfterReread, AfterStore, Answers, AtClear, AtDirect, AtNudge, AtReread, AtStore, AtTold, AtToldNudge, IsRoute, Next, Taken, TakenOrCleared, TakenOrStored, Unrouted, Wants, routed}
use Rattle.http_wire.specs.declared.request.Request.{Request}
use Rattle.endpoint_router.specs.Shards.{shard_of}
use Rattle.http_front.specs.declared.outcome.Outcome.{Outcome}
use Rattle.http_front.specs.declared.outcome.Outcome.TheVariants.{Faulty, Unread, Routed}
use Rattle.http_front.specs.Begins.{BeginsOnce, begins_of, is_begin}
use Rattle.http_front.specs.Exchanges.{ComesTo, op}
use Rattle.http_front.specs.OpNumbers.{AreBelow, AreMadeBelow, IsAbove, IsBelow}

-- ---- the steps of a route

module _ (n : ℕ) where
  next_below : (k : ℕ) (asked : Step) (follows : Reply → List Made → Type 0) (ms : List Made) → IsBelow n asked → ((r : Reply) (ns : List Made) → follows r ns → AreMadeBelow n ns) →
      Next k asked follows ms → AreMadeBelow n ms
  next_below k asked follows [] b f h = absurd h
  next_below k asked follows (m ∷ ms) b f h = (subst (IsBelow n) (sym h.1) b, f m.reply ms h.2)

  module _ (answer : Result Answer NoMemory) where
    answers_below : (said : Answer) (ms : List Made) → Answers answer said ms → AreMadeBelow n ms
    answers_below said [] h = tt
    answers_below said (m ∷ ms) h = absurd h

    wants_below : (ms : List Made) → Wants answer ms → AreMadeBelow n ms
    wants_below [] h = tt
    wants_below (m ∷ ms) h = absurd h

    module _ (x : Routing) where
      clear_below : (ms : List Made) → AtClear answer x ms → AreMadeBelow n ms
      clear_below ms h = next_below x.shard (Clear (OfFlight x.op)) (Taken answer x) ms tt (λ r ns t. answers_below _ ns t.1) h

      cleared_below : (here : Bool) (r : Reply) (ms : List Made) → TakenOrCleared answer x here r ms → AreMadeBelow n ms
      cleared_below true r ms h = answers_below _ ms h.1
      cleared_below false r ms h = clear_below ms h.3

      told_nudge_below : (here : Bool) (ms : List Made) → AtToldNudge answer x here ms → AreMadeBelow n ms
      told_nudge_below here ms (inl h) = next_below x.shard (Heard (OfFlight x.op)) (TakenOrCleared answer x here) ms tt (cleared_below here) h
      told_nudge_below here ms (inr h) = next_below x.shard (Lost (OfFlight x.op)) (TakenOrCleared answer x false) ms tt (cleared_below false) h

      after_nudge_below : (r : Reply) (ms : List Made) → AfterNudge answer x r ms → AreMadeBelow n ms
      after_nudge_below (Here u) ms h = told_nudge_below true ms h
      after_nudge_below NotHere ms h = told_nudge_below false ms h
      after_nudge_below (StageIs (IsToldNudge here a b)) ms h = told_nudge_below here ms h
      after_nudge_below r ms h = absurd h

      nudge_below : (ms : List Made) → AtNudge answer x ms → AreMadeBelow n ms
      nudge_below ms (inl h) = next_below x.shard (Nudge (OfFlight x.op)) (AfterNudge answer x) ms tt after_nudge_below h
      nudge_below ms (inr h) = next_below x.shard (Lost (OfFlight x.op)) (TakenOrCleared answer x false) ms tt (cleared_below false) h

      after_reread_below : (r : Reply) (ms : List Made) → AfterReread answer x r ms → AreMadeBelow n ms
      after_reread_below (Names a b) ms h = nudge_below ms h
      after_reread_below r ms h = answers_below _ ms h.1

      reread_below : (ms : List Made) → AtReread answer x ms → AreMadeBelow n ms
      reread_below ms h = next_below x.shard (Reread (OfFlight x.op)) (AfterReread answer x) ms tt after_reread_below h

      after_store_below : (r : Reply) (ms : List Made) → AfterStore answer x r ms → AreMadeBelow n ms
      after_store_below (End code) ms h = answers_below _ ms h.1
      after_store_below Stored ms h = reread_below ms h
      after_store_below r ms h = absurd h

      store_below : (ms : List Made) → AtStore answer x ms → AreMadeBelow n ms
      store_below ms (inl h) = next_below x.shard (Store x.op) (AfterStore answer x) ms tt after_store_below h
      store_below ms (inr h) = next_below x.shard (GiveUp x.op) _ ms tt (λ r ns t. wants_below ns t.1) h

      stored_below : (taken : Bool) (r : Reply) (ms : List Made) → TakenOrStored answer x taken r ms → AreMadeBelow n ms
      stored_below true r ms h = answers_below _ ms h.1
      stored_below false r ms h = store_below ms h.1

      told_below : (here : Bool) (ms : List Made) → AtTold answer x here ms → AreMadeBelow n ms
      told_below here ms (inl h) = next_below x.shard (Heard (OfFlight x.op)) _ ms tt (stored_below _) h
      told_below here ms (inr h) = next_below x.shard (Lost (OfFlight x.op)) _ ms tt (stored_below _) h

      after_direct_below : (r : Reply) (ms : List Made) → AfterDirect answer x r ms → AreMadeBelow n ms
      after_direct_below (Here u) ms h = told_below true ms h
      after_direct_below NotHere ms h = told_below false ms h
      after_direct_below (StageIs (IsTold here)) ms h = told_below here ms h
      after_direct_below r ms h = absurd h

      direct_below : (ms : List Made) → AtDirect answer x ms → AreMadeBelow n ms
      direct_below ms (inl h) = next_below x.shard (Direct x.op) (AfterDirect answer x) ms tt after_direct_below h
      direct_below ms (inr (inl h)) = next_below x.shard (Lost (OfFlight x.op)) _ ms tt (stored_below _) h
      direct_below ms (inr (inr h)) = next_below x.shard (GiveUp x.op) _ ms tt (λ r ns t. wants_below ns t.1) h

    module _ (k : ℕ) (o : Op) (ttl : ℕ) where
      unrouted_below : (b : Bool) (i : MsgId) (ms : List Made) → Unrouted k o ttl answer b i ms → AreMadeBelow n ms
      unrouted_below true i ms h = answers_below _ ms h
      unrouted_below false i ms h = store_below (routed k o ttl answer i) ms h

      after_begin_below : (r : Reply) (ms : List Made) → AfterBegin k o ttl answer r ms → AreMadeBelow n ms
      after_begin_below NoToken ms h = answers_below _ ms h
      after_begin_below IdsSpent ms h = answers_below _ ms h
      after_begin_below (Begun i (Some p)) ms h = direct_below (routed k o ttl answer i) ms h
      after_begin_below (Begun i None) ms h = unrouted_below _ i ms h
      after_begin_below r ms h = absurd h

    route_below : (k : ℕ) (o : Op) (now : ℕ) (t : Token) (ask : AskValue) (ms : List Made) → o.k < n → IsRoute k o now t ask answer ms → AreMadeBelow n ms
    route_below k o now t ask [] low h = absurd h
    route_below k o now t ask (m ∷ ms) low (a, b, (d, inl h)) =
        (subst (IsBelow n) (sym b) tt, next_below k (Begin o t ask) (AfterBegin k o ask.terms.ttl answer) ms low (after_begin_below k o ask.terms.ttl) h)
    route_below k o now t ask (m ∷ ms) low (a, b, (d, inr h)) = (subst (IsBelow n) (sym b) tt, wants_below ms h)

-- ---- entries

below_more : (n : ℕ) (es fs : List (Entry Step Reply)) → AreBelow n es → AreBelow n fs → AreBelow n (es ++ fs)
below_more n [] fs h k = k
below_more n (e ∷ es) fs h k = (h.0, below_more n es fs h.1 k)

step_rises : (n m : ℕ) (x : Step) → n ≤ m → IsBelow n x → IsBelow m x
step_rises n m (Begin o t ask) le h = omega (arith, le, h)
step_rises n m x le h = tt

below_rises : (n m : ℕ) (es : List (Entry Step Reply)) → n ≤ m → AreBelow n es → AreBelow m es
below_rises n m [] le h = tt
below_rises n m (e ∷ es) le h = (step_rises n m e.step le h.0, below_rises n m es le h.1)

below_if : (n : ℕ) (b : Bool) (e : Entry Step Reply) (es : List (Entry Step Reply)) → IsBelow n e.step → AreBelow n es → AreBelow n (cond b (e ∷ es) es)
below_if n true e es h k = (h, k)
below_if n false e es h k = k

below_at : (n : ℕ) (number : ℕ → ℕ) (k : ℕ) (ms : List Made) → AreMadeBelow n ms → AreBelow n (entries_at number k ms)
below_at n number k [] h = tt
below_at n number k (m ∷ ms) h = below_if n (is_on k m) (entry (number k) m.step m.reply) (entries_at number k ms) h.0 (below_at n number k ms h.1)

-- what calls leave that begin no flight of the number m or above
pub above_calls : (a b : DeskView) (ms : List Made) (n m : ℕ) → n ≤ m → IsAbove a n → AreMadeBelow m ms → Calls a b ms → IsAbove b m
above_calls a b ms n m le h below c = record {
  own = λ k low. subst (AreBelow m) (sym (c.own k))
      (below_more m (own_entries a k) (entries_at a.number k ms) (below_rises n m (own_entries a k) le (h.own k (subst (λ z. k < z) c.same.size low))) (below_at m a.number k ms below));
  opened = λ k low o f is pass.
      let less : o.k < n = h.opened k (subst (λ z. k < z) c.same.size low) o f (subst (λ z. flight_at o z ≡ Some f) (c.same.opened k) is) (pass ∙ c.same.number k) in
      omega (arith, less, le);
}

-- a route of the flight n leaves those above it new
pub above_route : (a b : DeskView) (k n m : ℕ) (o : Op) (now : ℕ) (t : Token) (ask : AskValue) (answer : Result Answer NoMemory) (ms : List Made) → o.k ≡ n → m ≡ n + 1 →
    IsAbove a n → IsRoute k o now t ask answer ms → Calls a b ms → IsAbove b m
above_route a b k n m o now t ask answer ms e f h r c = above_calls a b ms n m (omega arith) h (route_below m answer k o now t ask ms (omega arith) r) c

-- ---- numbers that are new at first, and stay so

both_true : (p q : Bool) → p ≡ true → q ≡ true → (p && q) ≡ true
both_true true q e f = f
both_true false q e f = e

same_op : (o : Op) → is_same_op o o ≡ true
same_op o = both_true (o.pass == o.pass) (o.k == o.k) (eq-eqb o.pass o.pass refl) (eq-eqb o.k o.k refl)

step_begins_none : (n : ℕ) (x : Step) → ((o : Op) → is_begin_of o x ≡ false) → IsBelow n x
step_begins_none n (Begin o t ask) h = let odd : true ≡ false = sym (same_op o) ∙ h o in cc
step_begins_none n x h = tt

none_begun : (n : ℕ) (es : List (Entry Step Reply)) → ((o : Op) → NoBegin o es) → AreBelow n es
none_begun n [] h = tt
none_begun n (e ∷ es) h = (step_begins_none n e.step (λ o. (h o).0), none_begun n es (λ o. (h o).1))

pub above_first : (v : DeskView) (n : ℕ) → ((k : ℕ) → k < v.size → (o : Op) → NoBegin o (own_entries v k)) → ((k : ℕ) → k < v.size → (o : Op) → flight_at o (v.opened k) ≡ None) → IsAbove v n
above_first v n begun idle = record {
  own = λ k low. none_begun n (own_entries v k) (begun k low);
  opened = λ k low o f is pass. let odd : None ≡ Some f = sym (idle k low o) ∙ is in cc;
}

pub above_start : (v : DeskView) (n : ℕ) → ((k : ℕ) → k < v.size → own_entries v k ≡ []) → ((k : ℕ) → k < v.size → (number : ℕ) × (next : ℕ) × (v.opened k ≡ start number next)) → IsAbove v n
above_start v n none opened =
    above_first v n (λ k low o. subst (λ z. NoBegin o z) (sym (none k low)) tt) (λ k low o. ap (flight_at o) (opened k low).2)

pub above_rises : (v : DeskView) (n m : ℕ) → n ≤ m → IsAbove v n → IsAbove v m
above_rises v n m le h = record {
  own = λ k low. below_rises n m (own_entries v k) le (h.own k low);
  opened = λ k low o f is pass. let less = h.opened k low o f is pass in omega (arith, less, le);
}

made_rises : (n m : ℕ) (ms : List Made) → n ≤ m → AreMadeBelow n ms → AreMadeBelow m ms
made_rises n m [] le h = tt
made_rises n m (e ∷ ms) le h = (step_rises n m e.step le h.0, made_rises n m ms le h.1)

pub above_others : (a b : DeskView) (ms : List Made) (n : ℕ) → AreMadeBelow 0 ms → Calls a b ms → IsAbove a n → IsAbove b n
above_others a b ms n below c h = above_calls a b ms n n (omega arith) h (made_rises 0 n ms (omega arith) below) c

-- ---- the one flight that a route begins

step_none : (x : Step) → IsBelow 0 x → is_begin x ≡ false
step_none (Begin o t ask) h = absurd (omega (arith, h))
step_none x h = refl

kept_none : (b : Bool) (m : Made) (ms : List Made) → b ≡ false → ms ≡ [] → cond b (m ∷ ms) ms ≡ []
kept_none true m ms e f = let odd : true ≡ false = e in cc
kept_none false m ms e f = f

begins_none : (ms : List Made) → AreMadeBelow 0 ms → begins_of ms ≡ []
begins_none [] h = refl
begins_none (m ∷ ms) h = kept_none (is_begin m.step) m (begins_of ms) (step_none m.step h.0) (begins_none ms h.1)

kept_one : (b : Bool) (m : Made) (ms : List Made) → b ≡ true → ms ≡ [] → cond b (m ∷ ms) ms ≡ m ∷ []
kept_one true m ms e f = ap (λ z. m ∷ z) f
kept_one false m ms e f = let odd : false ≡ true = e in cc

-- an entry of that shard and that step
made_is : (m : Made) (k : ℕ) (x : Step) → m.shard ≡ k → m.step ≡ x → m ≡ made k x m.reply
made_is m k x e f = ap (λ z. made z m.step m.reply) e ∙ ap (λ z. made k z m.reply) f

begun_one : (k : ℕ) (o : Op) (t : Token) (ask : AskValue) (answer : Result Answer NoMemory) (ms : List Made) → Next k (Begin o t ask) (AfterBegin k o ask.terms.ttl answer) ms →
    (r : Reply) × (begins_of ms ≡ made k (Begin o t ask) r ∷ [])
begun_one k o t ask answer [] h = absurd h
begun_one k o t ask answer (m ∷ ms) h = (
  m.reply,
  kept_one (is_begin m.step) m (begins_of ms) (ap is_begin h.1) (begins_none ms (after_begin_below 0 answer k o ask.terms.ttl m.reply ms h.2))
      ∙ ap (λ z. z ∷ []) (made_is m k (Begin o t ask) h.0 h.1),
)

wants_err : (answer : Result Answer NoMemory) (ms : List Made) → Wants answer ms → IsErr answer × (ms ≡ [])
wants_err answer [] h = (h, refl)
wants_err answer (m ∷ ms) h = absurd h

begins_behind : (m : Made) (ms : List Made) (now : ℕ) → m.step ≡ Tick now → begins_of (m ∷ ms) ≡ begins_of ms
begins_behind m ms now e = ap (λ z. cond (is_begin z) (m ∷ begins_of ms) (begins_of ms)) e

pub route_begins : (k : ℕ) (o : Op) (now : ℕ) (t : Token) (ask : AskValue) (answer : Result Answer NoMemory) (ms : List Made) → IsRoute k o now t ask answer ms →
    ((r : Reply) × (begins_of ms ≡ made k (Begin o t ask) r ∷ [])) ⊎ (IsErr answer × (begins_of ms ≡ []))
route_begins k o now t ask answer [] h = absurd h
route_begins k o now t ask answer (m ∷ ms) (a, b, (d, inl h)) =
    let one = begun_one k o t ask answer ms h in
    inl (one.0, begins_behind m ms now b ∙ one.1)
route_begins k o now t ask answer (m ∷ ms) (a, b, (d, inr h)) =
    let none = wants_err answer ms h in
    inr (none.0, begins_behind m ms now b ∙ ap begins_of none.1)

pub begins_once : (v : DeskView) (moment : Option ℕ) (n : ℕ) (r : Request) (outcome : Outcome) (ms : List Made) → ComesTo v moment n r outcome ms → BeginsOnce v n r outcome ms
begins_once v moment n r (Faulty fault) ms h = h.1
begins_once v moment n r Unread ms h = h
begins_once v moment n r (Routed answer) ms (none, h) = (
  h.token,
  h.ask,
  h.asks,
  route_begins (shard_of h.token v.size) (op (v.number (shard_of h.token v.size)) n) (h.millis / 1000) h.token h.ask answer ms h.route,
)
