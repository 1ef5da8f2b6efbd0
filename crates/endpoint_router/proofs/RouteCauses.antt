-- What the entries of a whole route say of its answer.
use Rattle.std.proofs.Common.{◌≡◌, ◌↔◌, ℕ, ◌≤◌, ◌==◌, Bool, true, false, ◌||◌, inl, inr, List, [], ◌∷◌, length, refl, sym, ap, subst, ◌∙◌, arith}
use Rattle.std.specs.Prelude.{Option, Some, None, Ok, Err, IsErr}
use Rattle.std.specs.List.{list_any}
use Rattle.push_model.specs.declared.ids.Op.{Op}
use Rattle.push_model.specs.declared.ids.Token.{Token}
use Rattle.push_model.specs.declared.ids.MsgId.{MsgId}
use Rattle.push_model.specs.declared.reply.Reply.{Reply}
use Rattle.push_model.specs.declared.reply.Reply.TheVariants.{Done, NoToken, IdsSpent, Begun}
use Rattle.push_model.specs.AskValue.{AskValue}
use Rattle.push_model.specs.DeskViews.{Made}
use Rattle.endpoint_router.specs.declared.answer.Answer.{Answer}
use Rattle.endpoint_router.specs.declared.answer.Answer.TheVariants.{Created, Gone, Full, IdsSpent as NoIds}
use Rattle.endpoint_router.specs.Routes.{AfterBegin, IsRoute, Unrouted, routed}
use Rattle.endpoint_router.specs.Causes.{begun_id, id_of, or_else, says_full, says_gone, says_spent, says_stored, says_taken}
use Rattle.endpoint_router.proofs.CauseLemmas.{Answered, IsQuiet, Says, direct_says, err_tests, is_created, is_full, is_gone, is_spent, names_created, names_none, none_left, one, one_said, quiet_more, store_says, wider}

-- ---- the whole route

module _ (k : ℕ) (o : Op) (ttl : ℕ) (answer : Answered) where
  -- The entry of Begin, and those behind it.
  record Begins (r : Reply) (m : Made) (ms : List Made) : Type 0 where
    says : (j : MsgId) × Says answer j ttl 8 (m ∷ ms)
    named : (i : MsgId) (t : ℕ) → answer ≡ Ok (Created i t) → (id_of r ≡ Some i) × (t ≡ ttl)

  begins_with : (i : MsgId) (place : Option (ℕ × ℕ)) (m : Made) (ms : List Made) → Says answer i ttl 8 (m ∷ ms) → Begins (Begun i place) m ms
  begins_with i place m ms s = record { says = (i, s); named = λ j t e. let q = s.id j t e in (ap (λ z. Some z) (sym q.0), q.1) }

  unrouted_says : (i : MsgId) (b : Bool) (m : Made) (ms : List Made) → (ttl == 0) ≡ b → m.reply ≡ Begun i None → Unrouted k o ttl answer b i ms → Says answer i ttl 8 (m ∷ ms)
  unrouted_says i true m ms z e h =
      let t = none_left answer (Created i ttl) ms h in
      subst (λ l. Says answer i ttl 8 (m ∷ l)) (sym t.0)
      (wider answer i ttl 1 8 (m ∷ []) (omega arith)
      (one_said answer i ttl m (Begun i None) (Created i ttl) e t.1 refl refl refl (ap (λ b. b || false) z) refl (names_created answer i ttl t.1)))
  unrouted_says i false m ms z e h =
      wider answer i ttl 6 8 (m ∷ ms) (omega arith)
      (quiet_more answer i ttl 5 m ms (subst (λ q. IsQuiet ttl q) (sym e) (record { gone = refl; full = refl; spent = refl; taken = z })) (λ w. ap says_stored e)
      (store_says answer (routed k o ttl answer i) ms h))

  -- where Begin refused
  refused : (m : Made) (r : Reply) (said : Answer) (ms : List Made) → m.reply ≡ r → ms ≡ [] → answer ≡ Ok said → (says_gone r || false) ≡ is_gone (Ok said) →
      (says_full r || false) ≡ is_full (Ok said) → (says_spent r || false) ≡ is_spent (Ok said) → (says_taken ttl r || false) ≡ is_created (Ok said) → (says_stored r || false) ≡ false →
      is_created (Ok said) ≡ false → Begins r m ms
  refused m r said ms e n q gone full spent taken stored none =
      let j : MsgId = record { shard = 0; number = 0 } in
      let not : is_created answer ≡ false = ap is_created q ∙ none in
      record {
        says = (
          j,
          subst (λ l. Says answer j ttl 8 (m ∷ l)) (sym n)
              (wider answer j ttl 1 8 (m ∷ []) (omega arith) (one_said answer j ttl m r said e q gone full spent taken stored (names_none answer j ttl not))),
        );
        named = λ i t is. let odd : true ≡ false = sym (ap is_created is) ∙ not in cc;
      }

  begin_says : (m : Made) (r : Reply) (ms : List Made) → m.reply ≡ r → AfterBegin k o ttl answer r ms → Begins r m ms
  begin_says m NoToken ms e h =
      let t = none_left answer Gone ms h in
      refused m NoToken Gone ms e t.0 t.1 refl refl refl refl refl refl
  begin_says m IdsSpent ms e h =
      let t = none_left answer NoIds ms h in
      refused m IdsSpent NoIds ms e t.0 t.1 refl refl refl refl refl refl
  begin_says m (Begun i (Some p)) ms e h =
      begins_with i (Some p) m ms
      (quiet_more answer i ttl 7 m ms (subst (λ q. IsQuiet ttl q) (sym e) (record { gone = refl; full = refl; spent = refl; taken = refl })) (λ w. ap says_stored e)
      (direct_says answer (routed k o ttl answer i) ms h))
  begin_says m (Begun i None) ms e h = begins_with i None m ms (unrouted_says i (ttl == 0) m ms refl e h)
  begin_says m r ms e h = absurd h

module _ (k : ℕ) (o : Op) (now : ℕ) (t : Token) (ask : AskValue) (answer : Answered) where
  -- What the whole route says.
  pub record Whole (ms : List Made) : Type 0 where
    pub few : length ms ≤ 9
    pub gone : list_any (λ m. says_gone m.reply) ms ≡ is_gone answer
    pub full : list_any (λ m. says_full m.reply) ms ≡ is_full answer
    pub spent : list_any (λ m. says_spent m.reply) ms ≡ is_spent answer
    pub taken : list_any (λ m. says_taken ask.terms.ttl m.reply) ms ≡ is_created answer
    pub wanted : IsErr answer → list_any (λ m. says_stored m.reply) ms ≡ false
    pub id : (i : MsgId) (ttl : ℕ) → answer ≡ Ok (Created i ttl) → (begun_id ms ≡ Some i) × (ttl ≡ ask.terms.ttl)

  whole_of : (j : MsgId) (ms : List Made) → Says answer j ask.terms.ttl 9 ms → ((i : MsgId) (ttl : ℕ) → answer ≡ Ok (Created i ttl) → (begun_id ms ≡ Some i) × (ttl ≡ ask.terms.ttl)) → Whole ms
  whole_of j ms s id = record { few = s.few; gone = s.gone; full = s.full; spent = s.spent; taken = s.taken; wanted = s.wanted; id = id }

  no_id : MsgId
  no_id = record { shard = 0; number = 0 }

  done_quiet : (m : Made) → m.reply ≡ Done → IsQuiet ask.terms.ttl m.reply
  done_quiet m e = subst (λ q. IsQuiet ask.terms.ttl q) (sym e) (record { gone = refl; full = refl; spent = refl; taken = refl })

  named_first : (i : MsgId) (m n : Made) (ms : List Made) → m.reply ≡ Done → id_of n.reply ≡ Some i → begun_id (m ∷ (n ∷ ms)) ≡ Some i
  named_first i m n ms e q = ap (λ z. or_else (id_of z) (or_else (id_of n.reply) (begun_id ms))) e ∙ ap (λ z. or_else z (begun_id ms)) q

  pub route_says : (ms : List Made) → IsRoute k o now t ask answer ms → Whole ms
  route_says [] h = absurd h
  route_says (m ∷ []) (a, b, (d, inl h)) = absurd h
  route_says (m ∷ []) (a, b, (d, inr h)) =
      let e = err_tests answer h in
      whole_of no_id (m ∷ []) (wider answer no_id ask.terms.ttl 1 9 (m ∷ []) (omega arith)
      (one answer no_id ask.terms.ttl m Done d (sym e.0) (sym e.1) (sym e.2) (sym e.3) refl (names_none answer no_id ask.terms.ttl e.3)))
      (λ i ttl q. let odd : true ≡ false = sym (ap is_created q) ∙ e.3 in cc)
  route_says (m ∷ (n ∷ ms)) (a, b, (d, inl h)) =
      let s = begin_says k o ask.terms.ttl answer n n.reply ms refl h.2 in
      whole_of s.says.0 (m ∷ (n ∷ ms)) (quiet_more answer s.says.0 ask.terms.ttl 8 m (n ∷ ms) (done_quiet m d) (λ w. ap says_stored d) s.says.1)
      (λ i ttl q. let named = s.named i ttl q in (named_first i m n ms d named.0, named.1))
  route_says (m ∷ (n ∷ ms)) (a, b, (d, inr h)) = absurd h

-- ---- tests of the answer

only_gone : (answer : Answered) → is_gone answer ≡ true → answer ≡ Ok Gone
only_gone (Ok Gone) h = refl
only_gone (Ok v) h = let odd : false ≡ true = h in cc
only_gone (Err v) h = let odd : false ≡ true = h in cc

only_full : (answer : Answered) → is_full answer ≡ true → answer ≡ Ok Full
only_full (Ok Full) h = refl
only_full (Ok v) h = let odd : false ≡ true = h in cc
only_full (Err v) h = let odd : false ≡ true = h in cc

only_spent : (answer : Answered) → is_spent answer ≡ true → answer ≡ Ok NoIds
only_spent (Ok NoIds) h = refl
only_spent (Ok v) h = let odd : false ≡ true = h in cc
only_spent (Err v) h = let odd : false ≡ true = h in cc

only_created : (answer : Answered) (n : ℕ) → is_created answer ≡ true → ((i : MsgId) (ttl : ℕ) → answer ≡ Ok (Created i ttl) → ttl ≡ n) → (i : MsgId) × (answer ≡ Ok (Created i n))
only_created (Ok (Created i ttl)) n h id = (i, ap (λ z. Ok (Created i z)) (id i ttl refl))
only_created (Ok v) n h id = let odd : false ≡ true = h in cc
only_created (Err v) n h id = let odd : false ≡ true = h in cc

pub gone_test : (answer : Answered) (b : Bool) → b ≡ is_gone answer → (answer ≡ Ok Gone) ↔ (b ≡ true)
gone_test answer b e = (λ q. e ∙ ap is_gone q, λ q. only_gone answer (sym e ∙ q))

pub full_test : (answer : Answered) (b : Bool) → b ≡ is_full answer → (answer ≡ Ok Full) ↔ (b ≡ true)
full_test answer b e = (λ q. e ∙ ap is_full q, λ q. only_full answer (sym e ∙ q))

pub spent_test : (answer : Answered) (b : Bool) → b ≡ is_spent answer → (answer ≡ Ok NoIds) ↔ (b ≡ true)
spent_test answer b e = (λ q. e ∙ ap is_spent q, λ q. only_spent answer (sym e ∙ q))

pub created_test : (answer : Answered) (n : ℕ) (b : Bool) → b ≡ is_created answer → ((i : MsgId) (ttl : ℕ) → answer ≡ Ok (Created i ttl) → ttl ≡ n) →
    ((i : MsgId) × (answer ≡ Ok (Created i n))) ↔ (b ≡ true)
created_test answer n b e id = (λ q. e ∙ ap is_created q.1, λ q. only_created answer n (sym e ∙ q) id)
