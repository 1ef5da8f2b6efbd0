-- What a route's entries say of its answer.
use Rattle.std.proofs.Common.{◌≡◌, ◌⊎◌, ℕ, suc, ◌≤◌, ◌==◌, Bool, true, false, ◌||◌, inl, inr, List, [], ◌∷◌, length, refl, sym, ap, subst, ◌∙◌, arith}
use Rattle.std.specs.Prelude.{Result, Ok, Err, IsErr}
use Rattle.std.specs.List.{list_any}
use Rattle.std.proofs.lemmas.Bool.{eqb-true}
use Rattle.push_model.specs.declared.entry.NoMemory.{NoMemory}
use Rattle.push_model.specs.declared.ids.MsgId.{MsgId}
use Rattle.push_model.specs.declared.step.Stage.TheVariants.{Told as IsTold, Store as IsStore, ToldNudge as IsToldNudge, Clear as IsClear}
use Rattle.push_model.specs.declared.reply.Reply.{Reply}
use Rattle.push_model.specs.declared.reply.Reply.TheVariants.{Here, NotHere, Stage as StageIs, Stored, Names, End, Moved}
use Rattle.push_model.specs.Replies.{is_store_reply}
use Rattle.push_model.specs.DeskViews.{Made}
use Rattle.endpoint_router.specs.declared.answer.Answer.{Answer}
use Rattle.endpoint_router.specs.declared.answer.Answer.TheVariants.{Created, Gone, Full, IdsSpent as NoIds}
use Rattle.endpoint_router.specs.declared.routing.Routing.{Routing}
use Rattle.endpoint_router.specs.Readings.{answer_to}
use Rattle.endpoint_router.specs.Routes.{AfterDirect, AfterNudge, AfterReread, AfterStore, Answers, AtClear, AtDirect, AtNudge, AtReread, AtStore, AtTold, AtToldNudge, GivenUp, Taken, TakenOrCleared, TakenOrStored, Wants}
use Rattle.endpoint_router.specs.Causes.{says_full, says_gone, says_spent, says_stored, says_taken}

abbrev pub Answered : Type 0
Answered = Result Answer NoMemory

-- ---- what the answer is, by tests

abbrev pub is_gone : Answered → Bool
is_gone (Ok Gone) = true
is_gone _ = false

abbrev pub is_full : Answered → Bool
is_full (Ok Full) = true
is_full _ = false

abbrev pub is_spent : Answered → Bool
is_spent (Ok NoIds) = true
is_spent _ = false

abbrev pub is_created : Answered → Bool
is_created (Ok (Created i ttl)) = true
is_created _ = false

-- Some entries, of which there are at most n, say this of the answer to a message with the id j and that ttl. Where it is want
-- of memory none was stored.
pub record Says (answer : Answered) (j : MsgId) (ttl n : ℕ) (ms : List Made) : Type 0 where
  pub few : length ms ≤ n
  pub gone : list_any (λ m. says_gone m.reply) ms ≡ is_gone answer
  pub full : list_any (λ m. says_full m.reply) ms ≡ is_full answer
  pub spent : list_any (λ m. says_spent m.reply) ms ≡ is_spent answer
  pub taken : list_any (λ m. says_taken ttl m.reply) ms ≡ is_created answer
  pub wanted : IsErr answer → list_any (λ m. says_stored m.reply) ms ≡ false
  pub id : (i : MsgId) (t : ℕ) → answer ≡ Ok (Created i t) → (i ≡ j) × (t ≡ ttl)

-- a reply that says nothing of the answer
pub record IsQuiet (ttl : ℕ) (r : Reply) : Type 0 where
  pub gone : says_gone r ≡ false
  pub full : says_full r ≡ false
  pub spent : says_spent r ≡ false
  pub taken : says_taken ttl r ≡ false

front : (b c d : Bool) → b ≡ false → c ≡ d → (b || c) ≡ d
front true c d e h = let odd : true ≡ false = e in cc
front false c d e h = h

few_more : (m : Made) (ms : List Made) (n : ℕ) → length ms ≤ n → length (m ∷ ms) ≤ suc n
few_more m ms n h = omega (arith, h)

pub quiet_more : (answer : Answered) (j : MsgId) (ttl n : ℕ) (m : Made) (ms : List Made) → IsQuiet ttl m.reply → (IsErr answer → says_stored m.reply ≡ false) → Says answer j ttl n ms → Says answer j ttl (suc n) (m ∷ ms)
quiet_more answer j ttl n m ms q stored s = record {
  few = few_more m ms n s.few;
  gone = front (says_gone m.reply) (list_any (λ z. says_gone z.reply) ms) (is_gone answer) q.gone s.gone;
  full = front (says_full m.reply) (list_any (λ z. says_full z.reply) ms) (is_full answer) q.full s.full;
  spent = front (says_spent m.reply) (list_any (λ z. says_spent z.reply) ms) (is_spent answer) q.spent s.spent;
  taken = front (says_taken ttl m.reply) (list_any (λ z. says_taken ttl z.reply) ms) (is_created answer) q.taken s.taken;
  wanted = λ e. front (says_stored m.reply) (list_any (λ z. says_stored z.reply) ms) false (stored e) (s.wanted e);
  id = s.id;
}

pub wider : (answer : Answered) (j : MsgId) (ttl n p : ℕ) (ms : List Made) → n ≤ p → Says answer j ttl n ms → Says answer j ttl p ms
wider answer j ttl n p ms le s =
    let few : length ms ≤ n = s.few in
    record { few = omega (arith, few, le); gone = s.gone; full = s.full; spent = s.spent; taken = s.taken; wanted = s.wanted; id = s.id }

-- the last entry
pub none_left : (answer : Answered) (said : Answer) (ms : List Made) → Answers answer said ms → (ms ≡ []) × (answer ≡ Ok said)
none_left answer said [] h = (refl, h)
none_left answer said (m ∷ ms) h = absurd h

none_wanted : (answer : Answered) (ms : List Made) → Wants answer ms → (ms ≡ []) × IsErr answer
none_wanted answer [] h = (refl, h)
none_wanted answer (m ∷ ms) h = absurd h

-- only that id and ttl can be named
abbrev pub NamesOnly : Answered → MsgId → ℕ → Type 0
NamesOnly answer j ttl = (i : MsgId) (t : ℕ) → answer ≡ Ok (Created i t) → (i ≡ j) × (t ≡ ttl)

pub names_created : (answer : Answered) (j : MsgId) (ttl : ℕ) → answer ≡ Ok (Created j ttl) → NamesOnly answer j ttl
names_created answer j ttl e i t q = (cc, cc)

pub names_none : (answer : Answered) (j : MsgId) (ttl : ℕ) → is_created answer ≡ false → NamesOnly answer j ttl
names_none answer j ttl e i t q = let odd : true ≡ false = sym (ap is_created q) ∙ e in cc

-- one entry, of that reply, is the last
pub one : (answer : Answered) (j : MsgId) (ttl : ℕ) (m : Made) (r : Reply) → m.reply ≡ r → (says_gone r || false) ≡ is_gone answer → (says_full r || false) ≡ is_full answer →
    (says_spent r || false) ≡ is_spent answer → (says_taken ttl r || false) ≡ is_created answer → (says_stored r || false) ≡ false → NamesOnly answer j ttl → Says answer j ttl 1 (m ∷ [])
one answer j ttl m r e gone full spent taken stored id = record {
  few = omega arith;
  gone = ap (λ z. says_gone z || false) e ∙ gone;
  full = ap (λ z. says_full z || false) e ∙ full;
  spent = ap (λ z. says_spent z || false) e ∙ spent;
  taken = ap (λ z. says_taken ttl z || false) e ∙ taken;
  wanted = λ w. ap (λ z. says_stored z || false) e ∙ stored;
  id = id;
}

-- the same, where the answer is known
pub one_said : (answer : Answered) (j : MsgId) (ttl : ℕ) (m : Made) (r : Reply) (said : Answer) → m.reply ≡ r → answer ≡ Ok said → (says_gone r || false) ≡ is_gone (Ok said) →
    (says_full r || false) ≡ is_full (Ok said) → (says_spent r || false) ≡ is_spent (Ok said) → (says_taken ttl r || false) ≡ is_created (Ok said) → (says_stored r || false) ≡ false →
    NamesOnly answer j ttl → Says answer j ttl 1 (m ∷ [])
one_said answer j ttl m r said e q gone full spent taken stored id =
    one answer j ttl m r e (gone ∙ ap is_gone (sym q)) (full ∙ ap is_full (sym q)) (spent ∙ ap is_spent (sym q)) (taken ∙ ap is_created (sym q)) stored id

pub err_tests : (a : Answered) → IsErr a → (is_gone a ≡ false) × (is_full a ≡ false) × (is_spent a ≡ false) × (is_created a ≡ false)
err_tests (Err e) h = (refl, refl, refl, refl)
err_tests (Ok v) h = let odd : false ≡ true = h in cc

three : (a b c : Bool) → (a || b || c) ≡ true → (a ≡ true) ⊎ ((b ≡ true) ⊎ (c ≡ true))
three true b c e = inl refl
three false true c e = inr (inl refl)
three false false c e = inr (inr e)

store_code : (code : ℕ) → is_store_reply (End code) ≡ true → (code ≡ 201) ⊎ ((code ≡ 410) ⊎ (code ≡ 503))
store_code code e =
    elim (three (code == 201) (code == 410) (code == 503) e) [
      | inl a ↦ inl (eqb-true code 201 a)
      | inr b ↦ elim b [ inl c ↦ inr (inl (eqb-true code 410 c)) | inr c ↦ inr (inr (eqb-true code 503 c)) ]
    ]

module _ (answer : Answered) (x : Routing) where
  abbrev S : ℕ → List Made → Type 0
  S n ms = Says answer x.id x.ttl n ms

  taken_says : (m : Made) (ms : List Made) → Taken answer x m.reply ms → S 1 (m ∷ ms)
  taken_says m ms h =
      let t = none_left answer (Created x.id x.ttl) ms h.1 in
      subst (λ z. S 1 (m ∷ z)) (sym t.0)
      (one_said answer x.id x.ttl m (End 201) (Created x.id x.ttl) h.0 t.1 refl refl refl refl refl (names_created answer x.id x.ttl t.1))

  given_up_says : (m : Made) (ms : List Made) → GivenUp answer x m.reply ms → S 1 (m ∷ ms)
  given_up_says m ms h =
      let t = none_wanted answer ms h.1 in
      let e = err_tests answer t.1 in
      subst (λ z. S 1 (m ∷ z)) (sym t.0) (one answer x.id x.ttl m (End 500) h.0 (sym e.0) (sym e.1) (sym e.2) (sym e.3) refl (names_none answer x.id x.ttl e.3))

  -- ---- from Reread on the message was taken

  -- the answer
  abbrev Sure : Type 0
  Sure = answer ≡ Ok (Created x.id x.ttl)

  abbrev Both : ℕ → List Made → Type 0
  Both n ms = S n ms × Sure

  taken_both : (m : Made) (ms : List Made) → Taken answer x m.reply ms → Both 1 (m ∷ ms)
  taken_both m ms h = (taken_says m ms h, (none_left answer (Created x.id x.ttl) ms h.1).1)

  more : (n : ℕ) (m : Made) (ms : List Made) → IsQuiet x.ttl m.reply → says_stored m.reply ≡ false → Both n ms → Both (suc n) (m ∷ ms)
  more n m ms q s h = (quiet_more answer x.id x.ttl n m ms q (λ e. s) h.0, h.1)

  loosen : (n p : ℕ) (ms : List Made) → n ≤ p → Both n ms → Both p ms
  loosen n p ms le h = (wider answer x.id x.ttl n p ms le h.0, h.1)

  clear_both : (ms : List Made) → AtClear answer x ms → Both 1 ms
  clear_both [] h = absurd h
  clear_both (m ∷ ms) h = taken_both m ms h.2

  quiet_as : (r q : Reply) → r ≡ q → IsQuiet x.ttl q → IsQuiet x.ttl r
  quiet_as r q e h = subst (λ z. IsQuiet x.ttl z) (sym e) h

  cleared_both : (here : Bool) (m : Made) (ms : List Made) → TakenOrCleared answer x here m.reply ms → Both 2 (m ∷ ms)
  cleared_both true m ms h = loosen 1 2 (m ∷ ms) (omega arith) (taken_both m ms h)
  cleared_both false m ms h =
      more 1 m ms (quiet_as m.reply (Moved (IsClear h.0 h.1)) h.2 (record { gone = refl; full = refl; spent = refl; taken = refl })) (ap says_stored h.2) (clear_both ms h.3)

  told_nudge_both : (here : Bool) (ms : List Made) → AtToldNudge answer x here ms → Both 2 ms
  told_nudge_both here [] (inl h) = absurd h
  told_nudge_both here [] (inr h) = absurd h
  told_nudge_both here (m ∷ ms) (inl h) = cleared_both here m ms h.2
  told_nudge_both here (m ∷ ms) (inr h) = cleared_both false m ms h.2

  -- what a link's step replies
  abbrev tells : Reply → Bool
  tells (Here u) = true
  tells NotHere = true
  tells (StageIs s) = true
  tells _ = false

  tells_quiet : (r : Reply) → tells r ≡ true → IsQuiet x.ttl r × (says_stored r ≡ false)
  tells_quiet (Here u) h = (record { gone = refl; full = refl; spent = refl; taken = refl }, refl)
  tells_quiet NotHere h = (record { gone = refl; full = refl; spent = refl; taken = refl }, refl)
  tells_quiet (StageIs s) h = (record { gone = refl; full = refl; spent = refl; taken = refl }, refl)
  tells_quiet r h = let odd : false ≡ true = h in cc

  after_nudge : (r : Reply) (ms : List Made) → AfterNudge answer x r ms → (tells r ≡ true) × ((here : Bool) × AtToldNudge answer x here ms)
  after_nudge (Here u) ms h = (refl, (true, h))
  after_nudge NotHere ms h = (refl, (false, h))
  after_nudge (StageIs (IsToldNudge here n a)) ms h = (refl, (here, h))
  after_nudge r ms h = absurd h

  nudge_both : (ms : List Made) → AtNudge answer x ms → Both 3 ms
  nudge_both [] (inl h) = absurd h
  nudge_both [] (inr h) = absurd h
  nudge_both (m ∷ ms) (inl h) =
      let a = after_nudge m.reply ms h.2 in
      let q = tells_quiet m.reply a.0 in
      more 2 m ms q.0 q.1 (told_nudge_both a.1.0 ms a.1.1)
  nudge_both (m ∷ ms) (inr h) = loosen 2 3 (m ∷ ms) (omega arith) (cleared_both false m ms h.2)

  names_or : (m : Made) (r : Reply) (ms : List Made) → m.reply ≡ r → AfterReread answer x r ms → Both 4 (m ∷ ms)
  names_or m (Names n a) ms e h =
      more 3 m ms (quiet_as m.reply (Names n a) e (record { gone = refl; full = refl; spent = refl; taken = refl })) (ap says_stored e) (nudge_both ms h)
  names_or m r ms e h = loosen 1 4 (m ∷ ms) (omega arith) (taken_both m ms (subst (λ z. Taken answer x z ms) (sym e) h))

  reread_both : (ms : List Made) → AtReread answer x ms → Both 4 ms
  reread_both [] h = absurd h
  reread_both (m ∷ ms) h = names_or m m.reply ms refl h.2

  -- ---- Store

  sure_not_err : Sure → IsErr answer → ⊥
  sure_not_err s e = let odd : false ≡ true = subst (λ z. IsErr z) s e in cc

  code_says : (m : Made) (code : ℕ) → m.reply ≡ End code → (code ≡ 201) ⊎ ((code ≡ 410) ⊎ (code ≡ 503)) → answer ≡ Ok (answer_to x.id x.ttl code) → S 1 (m ∷ [])
  code_says m code e (inl c) q =
      let said : answer ≡ Ok (Created x.id x.ttl) = q ∙ ap (λ n. Ok (answer_to x.id x.ttl n)) c in
      one_said answer x.id x.ttl m (End 201) (Created x.id x.ttl) (e ∙ ap (λ n. End n) c) said refl refl refl refl refl (names_created answer x.id x.ttl said)
  code_says m code e (inr (inl c)) q =
      let said : answer ≡ Ok Gone = q ∙ ap (λ n. Ok (answer_to x.id x.ttl n)) c in
      one_said answer x.id x.ttl m (End 410) Gone (e ∙ ap (λ n. End n) c) said refl refl refl refl refl (names_none answer x.id x.ttl (ap is_created said))
  code_says m code e (inr (inr c)) q =
      let said : answer ≡ Ok Full = q ∙ ap (λ n. Ok (answer_to x.id x.ttl n)) c in
      one_said answer x.id x.ttl m (End 503) Full (e ∙ ap (λ n. End n) c) said refl refl refl refl refl (names_none answer x.id x.ttl (ap is_created said))

  store_or : (m : Made) (r : Reply) (ms : List Made) → m.reply ≡ r → AfterStore answer x r ms → S 5 (m ∷ ms)
  store_or m (End code) ms e h =
      let t = none_left answer (answer_to x.id x.ttl code) ms h.1 in
      subst (λ z. S 5 (m ∷ z)) (sym t.0) (wider answer x.id x.ttl 1 5 (m ∷ []) (omega arith) (code_says m code e (store_code code h.0) t.1))
  store_or m Stored ms e h =
      let both = reread_both ms h in
      quiet_more answer x.id x.ttl 4 m ms (quiet_as m.reply Stored e (record { gone = refl; full = refl; spent = refl; taken = refl }))
      (λ w. absurd (sure_not_err both.1 w)) both.0
  store_or m r ms e h = absurd h

  pub store_says : (ms : List Made) → AtStore answer x ms → S 5 ms
  store_says [] (inl h) = absurd h
  store_says [] (inr h) = absurd h
  store_says (m ∷ ms) (inl h) = store_or m m.reply ms refl h.2
  store_says (m ∷ ms) (inr h) = wider answer x.id x.ttl 1 5 (m ∷ ms) (omega arith) (given_up_says m ms h.2)

  stored_says : (b : Bool) (m : Made) (ms : List Made) → TakenOrStored answer x b m.reply ms → S 6 (m ∷ ms)
  stored_says true m ms h = wider answer x.id x.ttl 1 6 (m ∷ ms) (omega arith) (taken_says m ms h)
  stored_says false m ms h =
      quiet_more answer x.id x.ttl 5 m ms (quiet_as m.reply (Moved IsStore) h.0 (record { gone = refl; full = refl; spent = refl; taken = refl }))
      (λ w. ap says_stored h.0) (store_says ms h.1)

  -- ---- Direct

  told_says : (here : Bool) (ms : List Made) → AtTold answer x here ms → S 6 ms
  told_says here [] (inl h) = absurd h
  told_says here [] (inr h) = absurd h
  told_says here (m ∷ ms) (inl h) = stored_says (here || (x.ttl == 0)) m ms h.2
  told_says here (m ∷ ms) (inr h) = stored_says (x.ttl == 0) m ms h.2

  after_direct : (r : Reply) (ms : List Made) → AfterDirect answer x r ms → (tells r ≡ true) × ((here : Bool) × AtTold answer x here ms)
  after_direct (Here u) ms h = (refl, (true, h))
  after_direct NotHere ms h = (refl, (false, h))
  after_direct (StageIs (IsTold here)) ms h = (refl, (here, h))
  after_direct r ms h = absurd h

  pub direct_says : (ms : List Made) → AtDirect answer x ms → S 7 ms
  direct_says [] (inl h) = absurd h
  direct_says [] (inr (inl h)) = absurd h
  direct_says [] (inr (inr h)) = absurd h
  direct_says (m ∷ ms) (inl h) =
      let a = after_direct m.reply ms h.2 in
      let q = tells_quiet m.reply a.0 in
      quiet_more answer x.id x.ttl 6 m ms q.0 (λ w. q.1) (told_says a.1.0 ms a.1.1)
  direct_says (m ∷ ms) (inr (inl h)) = wider answer x.id x.ttl 6 7 (m ∷ ms) (omega arith) (stored_says (x.ttl == 0) m ms h.2)
  direct_says (m ∷ ms) (inr (inr h)) = wider answer x.id x.ttl 1 7 (m ∷ ms) (omega arith) (given_up_says m ms h.2)
