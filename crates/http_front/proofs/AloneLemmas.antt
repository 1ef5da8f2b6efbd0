-- Where nobody else makes an entry meanwhile, a route's entries refuse nothing that the world before them admits.
use Rattle.std.proofs.Common.{◌≡◌, ◌⊎◌, ℕ, ◌+◌, ◌/◌, ◌==◌, ◌||◌, Bool, true, false, cond, inl, inr, List, [], ◌∷◌, ◌++◌, refl, ap, sym, subst, ◌∙◌}
use Rattle.std.specs.Prelude.{Option, Some, None, Result}
use Rattle.std.specs.List.{list_any}
use Rattle.std.proofs.lemmas.Bool.{eq-eqb}
use Rattle.push_model.specs.declared.entry.Entry.{Entry}
use Rattle.push_model.specs.declared.entry.NoMemory.{NoMemory}
use Rattle.push_model.specs.declared.ids.Op.{Op}
use Rattle.push_model.specs.declared.ids.Token.{Token}
use Rattle.push_model.specs.declared.ids.MsgId.{MsgId}
use Rattle.push_model.specs.declared.step.Actor.TheVariants.{Flight as OfFlight}
use Rattle.push_model.specs.declared.step.Stage.TheVariants.{Told as IsTold, Store as IsStore, ToldNudge as IsToldNudge}
use Rattle.push_model.specs.declared.step.Step.{Step}
use Rattle.push_model.specs.declared.step.Step.TheVariants.{Tick, Begin, Direct, Store, GiveUp, Reread, Nudge, Heard, Lost, Clear}
use Rattle.push_model.specs.declared.reply.Reply.{Reply}
use Rattle.push_model.specs.declared.reply.Reply.TheVariants.{Done, NoToken, IdsSpent, Begun, Here, NotHere, Stage as StageIs, Stored, Names, End, Moved}
use Rattle.push_model.specs.AskValue.{AskValue}
use Rattle.push_model.specs.Histories.{IsLegal, entry, world_after}
use Rattle.push_model.specs.Reached.{IsReached}
use Rattle.push_model.specs.Steps.{step}
use Rattle.push_model.specs.Worlds.{World}
use Rattle.push_model.specs.DeskViews.{Calls, DeskView, IsHonest, Made, entries_at, is_on, world_at}
use Rattle.push_model.proofs.HistoryLemmas.{legal_back, legal_front}
use Rattle.push_model.proofs.Reached.{reached_after, reached_more}
use Rattle.push_model.proofs.Routes.{honest_reached}
use Rattle.http_wire.specs.declared.request.Request.{Request}
use Rattle.push_paths.specs.Paths.{token_of}
use Rattle.endpoint_token.specs.TokenTexts.{spelled}
use Rattle.endpoint_token.proofs.SpellingLemmas.{spelled_alike}
use Rattle.endpoint_router.specs.declared.answer.Answer.{Answer}
use Rattle.endpoint_router.specs.declared.routing.Routing.{Routing}
use Rattle.endpoint_router.specs.Causes.{says_full, says_gone, says_spent}
use Rattle.endpoint_router.specs.Routes.{AfterBegin, AfterDirect, AfterNudge, AfterReread, AfterStore, Answers, AtDirect, AtNudge, AtReread, AtStore, AtTold, AtToldNudge, GivenUp, IsRoute, Next, Taken, TakenOrCleared, TakenOrStored, Unrouted, Wants, routed}
use Rattle.endpoint_router.specs.Shards.{shard_of}
use Rattle.http_front.specs.declared.ends.HttpEnd.{HttpEnd}
use Rattle.http_front.specs.declared.outcome.Outcome.{Outcome}
use Rattle.http_front.specs.declared.outcome.Outcome.TheVariants.{Faulty, Unread, Routed}
use Rattle.http_front.specs.Admissions.{Admits, GrewAlone, IsAlone, IsTo}
use Rattle.http_front.specs.Codes.{HasCode}
use Rattle.http_front.specs.Exchanges.{ComesTo, Exchange, IsAnswered, exchange_end, numbers_used, op, spent_end}
use Rattle.http_front.specs.Faults.{first_fault}
use Rattle.http_front.specs.Served.{AreAnswered, Scene, Served, entries_of}
use Rattle.http_front.proofs.AdmitLemmas.{AllFit, IsFine, admits_tick, begin_fine, fine, fits_begin, fits_direct, fits_heard, fits_lost, store_fine}
use Rattle.http_front.proofs.CodeLemmas.{taken_or_wanted}
use Rattle.http_front.proofs.CutLemmas.{entries_both, entries_joined}

-- ---- entries that refuse nothing

abbrev AllFine : List Made → Type 0
AllFine [] = Unit {0}
AllFine (m ∷ ms) = IsFine m.reply × AllFine ms

none_of : (p : Made → Bool) (b : Bool) (ms : List Made) → b ≡ false → list_any p ms ≡ false → (b || list_any p ms) ≡ false
none_of p true ms e h = let odd : true ≡ false = e in cc
none_of p false ms e h = h

-- none says what no such reply says
none_says : (p : Reply → Bool) → ((r : Reply) → IsFine r → p r ≡ false) → (ms : List Made) → AllFine ms → list_any (λ m. p m.reply) ms ≡ false
none_says p f [] h = refl
none_says p f (m ∷ ms) h = none_of (λ x. p x.reply) (p m.reply) ms (f m.reply h.0) (none_says p f ms h.1)

fine_as : (r s : Reply) → r ≡ s → IsFine s → IsFine r
fine_as r s e h = subst IsFine (sym e) h

-- ---- entries that are a legal history of their shard

abbrev Leg : (ℕ → ℕ) → ℕ → World → List Made → Type 0
Leg number k w ms = IsLegal step w (entries_at number k ms)

leg_cons : (number : ℕ → ℕ) (k : ℕ) (b : Bool) (w : World) (m : Made) (es : List (Entry Step Reply)) → b ≡ true → IsLegal step w (cond b (entry (number k) m.step m.reply ∷ es) es) →
    (m.reply ≡ (step w m.step).1) × IsLegal step (step w m.step).0 es
leg_cons number k true w m es e l = l
leg_cons number k false w m es e l = let odd : false ≡ true = e in cc

leg_next : (number : ℕ → ℕ) (k : ℕ) (w : World) (asked : Step) (m : Made) (ms : List Made) → m.shard ≡ k → m.step ≡ asked → Leg number k w (m ∷ ms) →
    (m.reply ≡ (step w asked).1) × Leg number k (step w asked).0 ms
leg_next number k w asked m ms e f l =
    subst (λ x. (m.reply ≡ (step w x).1) × Leg number k (step w x).0 ms) f (leg_cons number k (is_on k m) w m (entries_at number k ms) (eq-eqb m.shard k e) l)

-- ---- the steps of a route

next_fine : (number : ℕ → ℕ) (k : ℕ) (w : World) (asked : Step) (follows : Reply → List Made → Type 0) (ms : List Made) →
    ((r : Reply) (ns : List Made) → r ≡ (step w asked).1 → follows r ns → Leg number k (step w asked).0 ns → IsFine r × AllFine ns) → Next k asked follows ms → Leg number k w ms → AllFine ms
next_fine number k w asked follows [] f h l = absurd h
next_fine number k w asked follows (m ∷ ms) f h l = let t = leg_next number k w asked m ms h.0 h.1 l in f m.reply ms t.0 h.2 t.1

-- where what follows says it by itself
late_fine : (k : ℕ) (asked : Step) (follows : Reply → List Made → Type 0) (ms : List Made) → ((r : Reply) (ns : List Made) → follows r ns → IsFine r × AllFine ns) → Next k asked follows ms → AllFine ms
late_fine k asked follows [] f h = absurd h
late_fine k asked follows (m ∷ ms) f h = f m.reply ms h.2

module _ (number : ℕ → ℕ) (answer : Result Answer NoMemory) where
  answers_fine : (said : Answer) (ms : List Made) → Answers answer said ms → AllFine ms
  answers_fine said [] h = tt
  answers_fine said (m ∷ ms) h = absurd h

  wants_fine : (ms : List Made) → Wants answer ms → AllFine ms
  wants_fine [] h = tt
  wants_fine (m ∷ ms) h = absurd h

  module _ (x : Routing) where
    -- ---- once the message is stored

    taken_fine : (r : Reply) (ms : List Made) → Taken answer x r ms → IsFine r × AllFine ms
    taken_fine r ms h = (fine_as r (End 201) h.0 (fine (End 201) refl refl refl), answers_fine _ ms h.1)

    given_up_fine : (r : Reply) (ms : List Made) → GivenUp answer x r ms → IsFine r × AllFine ms
    given_up_fine r ms h = (fine_as r (End 500) h.0 (fine (End 500) refl refl refl), wants_fine ms h.1)

    cleared_fine : (here : Bool) (r : Reply) (ms : List Made) → TakenOrCleared answer x here r ms → IsFine r × AllFine ms
    cleared_fine true r ms h = taken_fine r ms h
    cleared_fine false r ms h = (fine_as r _ h.2 (fine _ refl refl refl), late_fine x.shard (Clear (OfFlight x.op)) (Taken answer x) ms taken_fine h.3)

    told_nudge_fine : (here : Bool) (ms : List Made) → AtToldNudge answer x here ms → AllFine ms
    told_nudge_fine here ms (inl h) = late_fine x.shard (Heard (OfFlight x.op)) (TakenOrCleared answer x here) ms (cleared_fine here) h
    told_nudge_fine here ms (inr h) = late_fine x.shard (Lost (OfFlight x.op)) (TakenOrCleared answer x false) ms (cleared_fine false) h

    after_nudge_fine : (r : Reply) (ms : List Made) → AfterNudge answer x r ms → IsFine r × AllFine ms
    after_nudge_fine (Here u) ms h = (fine _ refl refl refl, told_nudge_fine true ms h)
    after_nudge_fine NotHere ms h = (fine _ refl refl refl, told_nudge_fine false ms h)
    after_nudge_fine (StageIs (IsToldNudge here n a)) ms h = (fine _ refl refl refl, told_nudge_fine here ms h)
    after_nudge_fine r ms h = absurd h

    nudge_fine : (ms : List Made) → AtNudge answer x ms → AllFine ms
    nudge_fine ms (inl h) = late_fine x.shard (Nudge (OfFlight x.op)) (AfterNudge answer x) ms after_nudge_fine h
    nudge_fine ms (inr h) = late_fine x.shard (Lost (OfFlight x.op)) (TakenOrCleared answer x false) ms (cleared_fine false) h

    after_reread_fine : (r : Reply) (ms : List Made) → AfterReread answer x r ms → IsFine r × AllFine ms
    after_reread_fine (Names n a) ms h = (fine _ refl refl refl, nudge_fine ms h)
    after_reread_fine r ms h = taken_fine r ms h

    reread_fine : (ms : List Made) → AtReread answer x ms → AllFine ms
    reread_fine ms h = late_fine x.shard (Reread (OfFlight x.op)) (AfterReread answer x) ms after_reread_fine h

    -- ---- up to then

    after_store_fine : (r : Reply) (ms : List Made) → AfterStore answer x r ms → AllFine ms
    after_store_fine (End code) ms h = answers_fine _ ms h.1
    after_store_fine Stored ms h = reread_fine ms h
    after_store_fine r ms h = absurd h

    at_store_fine : (w : World) (ms : List Made) → AllFit x.op w.cells → AtStore answer x ms → Leg number x.shard w ms → AllFine ms
    at_store_fine w ms k (inl h) l =
        next_fine number x.shard w (Store x.op) (AfterStore answer x) ms (λ r ns e t m. (fine_as r (step w (Store x.op)).1 e (store_fine x.op w k), after_store_fine r ns t)) h l
    at_store_fine w ms k (inr h) l = late_fine x.shard (GiveUp x.op) (GivenUp answer x) ms given_up_fine h

    stored_fine : (taken : Bool) (w : World) (r : Reply) (ms : List Made) → AllFit x.op w.cells → TakenOrStored answer x taken r ms → Leg number x.shard w ms → IsFine r × AllFine ms
    stored_fine true w r ms k h l = taken_fine r ms h
    stored_fine false w r ms k h l = (fine_as r (Moved IsStore) h.0 (fine (Moved IsStore) refl refl refl), at_store_fine w ms k h.1 l)

    told_fine : (here : Bool) (w : World) (ms : List Made) → AllFit x.op w.cells → AtTold answer x here ms → Leg number x.shard w ms → AllFine ms
    told_fine here w ms k (inl h) l =
        next_fine number x.shard w (Heard (OfFlight x.op)) (TakenOrStored answer x (here || (x.ttl == 0))) ms
        (λ r ns e t m. stored_fine (here || (x.ttl == 0)) (step w (Heard (OfFlight x.op))).0 r ns (fits_heard x.op w k) t m) h l
    told_fine here w ms k (inr h) l =
        next_fine number x.shard w (Lost (OfFlight x.op)) (TakenOrStored answer x (x.ttl == 0)) ms
        (λ r ns e t m. stored_fine (x.ttl == 0) (step w (Lost (OfFlight x.op))).0 r ns (fits_lost x.op w k) t m) h l

    after_direct_fine : (w : World) (r : Reply) (ms : List Made) → AllFit x.op w.cells → AfterDirect answer x r ms → Leg number x.shard w ms → IsFine r × AllFine ms
    after_direct_fine w (Here u) ms k h l = (fine _ refl refl refl, told_fine true w ms k h l)
    after_direct_fine w NotHere ms k h l = (fine _ refl refl refl, told_fine false w ms k h l)
    after_direct_fine w (StageIs (IsTold here)) ms k h l = (fine _ refl refl refl, told_fine here w ms k h l)
    after_direct_fine w r ms k h l = absurd h

    direct_fine : (w : World) (ms : List Made) → AllFit x.op w.cells → AtDirect answer x ms → Leg number x.shard w ms → AllFine ms
    direct_fine w ms k (inl h) l =
        next_fine number x.shard w (Direct x.op) (AfterDirect answer x) ms (λ r ns e t m. after_direct_fine (step w (Direct x.op)).0 r ns (fits_direct x.op w k) t m) h l
    direct_fine w ms k (inr (inl h)) l =
        next_fine number x.shard w (Lost (OfFlight x.op)) (TakenOrStored answer x (x.ttl == 0)) ms
        (λ r ns e t m. stored_fine (x.ttl == 0) (step w (Lost (OfFlight x.op))).0 r ns (fits_lost x.op w k) t m) h l
    direct_fine w ms k (inr (inr h)) l = late_fine x.shard (GiveUp x.op) (GivenUp answer x) ms given_up_fine h

  module _ (k : ℕ) (o : Op) (ttl : ℕ) where
    unrouted_fine : (b : Bool) (i : MsgId) (w : World) (ms : List Made) → AllFit o w.cells → Unrouted k o ttl answer b i ms → Leg number k w ms → AllFine ms
    unrouted_fine true i w ms f h l = answers_fine _ ms h
    unrouted_fine false i w ms f h l = at_store_fine (routed k o ttl answer i) w ms f h l

    -- behind a Begin that is answered so
    begun_fine : (w : World) (r : Reply) (ms : List Made) → ((i : MsgId) (place : Option (ℕ × ℕ)) → r ≡ Begun i place → AllFit o w.cells) → AfterBegin k o ttl answer r ms → Leg number k w ms → AllFine ms
    begun_fine w NoToken ms f h l = answers_fine _ ms h
    begun_fine w IdsSpent ms f h l = answers_fine _ ms h
    begun_fine w (Begun i (Some p)) ms f h l = direct_fine (routed k o ttl answer i) w ms (f i (Some p) refl) h l
    begun_fine w (Begun i None) ms f h l = unrouted_fine (ttl == 0) i w ms (f i None refl) h l
    begun_fine w r ms f h l = absurd h

-- a whole route, from a world that admits its message
route_fine : (number : ℕ → ℕ) (k : ℕ) (o : Op) (now : ℕ) (t : Token) (ask : AskValue) (answer : Result Answer NoMemory) (w : World) (ms : List Made) → IsReached w → Admits t w →
    IsRoute k o now t ask answer ms → Leg number k w ms → AllFine ms
route_fine number k o now t ask answer w ms r a h l =
    next_fine number k w (Tick now) _ ms
    (λ said ns e follows m. (fine_as said Done follows.0 (fine Done refl refl refl), behind ns follows.1 m)) h l
  where
    v : World
    v = (step w (Tick now)).0

    behind : (ns : List Made) → Next k (Begin o t ask) (AfterBegin k o ask.terms.ttl answer) ns ⊎ Wants answer ns → Leg number k v ns → AllFine ns
    behind ns (inl b) m =
        let admits = admits_tick t w now a in
        next_fine number k v (Begin o t ask) (AfterBegin k o ask.terms.ttl answer) ns
        (λ said ps e follows n. (
          fine_as said (step v (Begin o t ask)).1 e (begin_fine o t ask v admits),
          begun_fine number answer k o ask.terms.ttl (step v (Begin o t ask)).0 said ps (λ i place is. fits_begin o t ask v i place (reached_more w (Tick now) r) admits (sym e ∙ is)) follows n,
        )) b m
    behind ns (inr wanted) m = wants_fine number answer ns wanted

-- ---- an exchange

-- the token that the request's route has
same_token : (text : List ℕ) (target : List ℕ) (s t : Token) → token_of target ≡ Some text → text ≡ spelled s → token_of target ≡ Some (spelled t) → spelled s ≡ spelled t
same_token text target s t p q e = let both : Some text ≡ Some (spelled t) = sym p ∙ e in let same : text ≡ spelled t = cc in sym q ∙ same

no_entries : (ms : List Made) → ms ≡ [] → AllFine ms
no_entries ms e = subst AllFine (sym e) tt

came_fine : (v : DeskView) (moment : Option ℕ) (n : ℕ) (r : Request) (outcome : Outcome) (ms : List Made) (t : Token) (w : World) → ComesTo v moment n r outcome ms → IsTo r t → IsReached w → Admits t w →
    Leg v.number (shard_of t v.size) w ms → AllFine ms
came_fine v moment n r (Faulty fault) ms t w h to reached a l = no_entries ms h.1
came_fine v moment n r Unread ms t w h to reached a l = no_entries ms h
came_fine v moment n r (Routed answer) ms t w h to reached a l =
    let i = h.1 in
    let same : i.token ≡ t = spelled_alike i.token t i.asks.token to.token (same_token i.asks.text r.head.target i.token t i.asks.path i.asks.spells to.path) in
    let k = shard_of t v.size in
    route_fine v.number k (op (v.number k) n) (i.millis / 1000) t i.ask answer w ms reached a
    (subst (λ s. IsRoute (shard_of s v.size) (op (v.number (shard_of s v.size)) n) (i.millis / 1000) s i.ask answer ms) same i.route) l

taken_from : (v : DeskView) (moment : Option ℕ) (count n : ℕ) (x : Exchange) (t : Token) (w : World) → IsAnswered v moment count n x → first_fault x.request ≡ None → IsTo x.request t → IsReached w → Admits t w →
    Leg v.number (shard_of t v.size) w x.entries → HasCode 201 x.reply ⊎ HasCode 500 x.reply
taken_from v moment count n x t w h none to reached a l =
    let all = came_fine v moment n x.request x.outcome x.entries t w h.comes to reached a l in
    taken_or_wanted v moment count n x h none (none_says says_gone (λ r f. f.gone) x.entries all) (none_says says_full (λ r f. f.full) x.entries all)
    (none_says says_spent (λ r f. f.spent) x.entries all)

-- the entries of calls at which nobody else was are a legal history from the world before them
alone_legal : (a b : DeskView) (ms : List Made) (k : ℕ) → IsHonest a → Calls a b ms → GrewAlone a b k ms → Leg a.number k (world_at a k) ms
alone_legal a b ms k h c g =
    legal_back step (a.opened k) (a.seen k) (entries_at a.number k ms)
    (subst (λ es. IsLegal step (a.opened k) es) g (subst (λ w. IsLegal step w (b.seen k)) (c.same.opened k) (c.legal k (h.legal k))))

pub alone_taken : (a b : DeskView) (moment : Option ℕ) (count n : ℕ) (x : Exchange) (t : Token) → IsHonest a → Calls a b x.entries → IsAnswered a moment count n x → first_fault x.request ≡ None → IsTo x.request t →
    GrewAlone a b (shard_of t a.size) x.entries → Admits t (world_at a (shard_of t a.size)) → HasCode 201 x.reply ⊎ HasCode 500 x.reply
alone_taken a b moment count n x t honest c h none to g admits =
    let k = shard_of t a.size in
    taken_from a moment count n x t (world_at a k) h none to (honest_reached a k honest) admits (alone_legal a b x.entries k honest c g)

-- ---- one exchange of a connection

record AnsweredAt (v : DeskView) (moment : Option ℕ) (x : Exchange) : Type 0 where
  count : ℕ
  number : ℕ
  is : IsAnswered v moment count number x

answered_at : (v : DeskView) (moment : Option ℕ) (now last : Option HttpEnd) (count n : ℕ) (before : List Exchange) (x : Exchange) (after : List Exchange) → AreAnswered v moment now count n (before ++ x ∷ after) last →
    AnsweredAt v moment x
answered_at v moment now last count n [] x after h = record { count = count + 1; number = n; is = h.1 }
answered_at v moment now last count n (y ∷ before) x after h =
    answered_at v moment (exchange_end y (count + 1) n) last (count + 1) (n + numbers_used y.outcome) before x after h.2

-- the entries of the exchanges on the shard k, in three parts
three_parts : (number : ℕ → ℕ) (k : ℕ) (before : List Exchange) (x : Exchange) (after : List Exchange) →
    entries_at number k (entries_of (before ++ x ∷ after)) ≡ entries_at number k (entries_of before) ++ (entries_at number k x.entries ++ entries_at number k (entries_of after))
three_parts number k before x after =
    ap (entries_at number k) (entries_joined before (x ∷ after))
    ∙ (entries_both number k (entries_of before) (x.entries ++ entries_of after) ∙ ap (λ z. entries_at number k (entries_of before) ++ z) (entries_both number k x.entries (entries_of after)))

pub connection_taken : (moment : Option ℕ) (end : HttpEnd) (a b : Scene) (served : Served moment end a b) (before : List Exchange) (x : Exchange) (after : List Exchange) (t : Token) → IsHonest a.desks →
    served.exchanges ≡ before ++ x ∷ after → GrewAlone a.desks b.desks (shard_of t a.desks.size) (entries_of served.exchanges) → first_fault x.request ≡ None → IsTo x.request t →
    Admits t (world_after step (world_at a.desks (shard_of t a.desks.size)) (entries_at a.desks.number (shard_of t a.desks.size) (entries_of before))) → HasCode 201 x.reply ⊎ HasCode 500 x.reply
connection_taken moment end a b served before x after t honest q g none to admits =
    let v = a.desks in
    let k = shard_of t v.size in
    let w = world_at v k in
    let is = answered_at v moment (spent_end a.number) served.last 0 a.number before x after (subst (λ xs. AreAnswered v moment (spent_end a.number) 0 a.number xs served.last) q served.answered) in
    let es = entries_at v.number k (entries_of before) in
    let fs = entries_at v.number k x.entries in
    let gs = entries_at v.number k (entries_of after) in
    let legal : IsLegal step w (es ++ (fs ++ gs)) =
    subst (λ z. IsLegal step w z) (ap (λ xs. entries_at v.number k (entries_of xs)) q ∙ three_parts v.number k before x after) (alone_legal v b.desks (entries_of served.exchanges) k honest served.calls g) in
    taken_from v moment is.count is.number x t (world_after step w es) is.is none to (reached_after w es (honest_reached v k honest) (legal_front step w es (fs ++ gs) legal)) admits
    (legal_front step (world_after step w es) fs gs (legal_back step w es (fs ++ gs) legal))

-- ---- desks at which each entry that was seen is an own one

pub grew_alone : (a b : DeskView) (ms : List Made) (k : ℕ) → Calls a b ms → IsAlone a k → IsAlone b k → GrewAlone a b k ms
grew_alone a b ms k c h g = sym g ∙ (c.own k ∙ ap (λ es. es ++ entries_at a.number k ms) h)
