-- What was seen of a shard by the end of an exchange.
use Rattle.std.proofs.Common.{◌≡◌, ℕ, Bool, true, false, cond, inl, inr, List, [], ◌∷◌, ◌++◌, refl, ap, sym, subst, ◌∙◌, append_assoc}
use Rattle.std.proofs.lemmas.List.Elements.{filter-append}
use Rattle.push_model.specs.declared.entry.Entry.{Entry}
use Rattle.push_model.specs.declared.reply.Reply.{Reply}
use Rattle.push_model.specs.declared.step.Step.{Step}
use Rattle.push_model.specs.DeskViews.{Calls, DeskView, IsHonest, Made, entries_at, entry_by, is_on, own_among, own_entries}
use Rattle.push_model.specs.Histories.{IsLegal, entry}
use Rattle.push_model.specs.Steps.{step}
use Rattle.push_model.proofs.Accounted.{accounted}
use Rattle.push_model.proofs.DeskLemmas.{own_same}
use Rattle.push_model.proofs.HistoryLemmas.{legal_front}
use Rattle.push_model.proofs.Reached.{reached_after, reached_cared}
use Rattle.http_front.specs.declared.ends.HttpEnd.{HttpEnd}
use Rattle.http_front.specs.Cuts.{Cut, EndsOwn}
use Rattle.http_front.specs.Exchanges.{Exchange}
use Rattle.http_front.specs.Served.{Scene, Served, entries_of}
use Rattle.std.specs.Prelude.{Option}

-- ---- lists

tail_of : {A : Type 0} (x y : A) (xs ys : List A) → x ∷ xs ≡ y ∷ ys → (x ≡ y) × (xs ≡ ys)
tail_of x y xs ys e = (cc, cc)

-- what stands behind one front is the same
pub cancel : {A : Type 0} (xs ys zs : List A) → xs ++ ys ≡ xs ++ zs → ys ≡ zs
cancel [] ys zs e = e
cancel (x ∷ xs) ys zs e = cancel xs ys zs (tail_of x x (xs ++ ys) (xs ++ zs) e).1

cond_both : {A : Type 0} (b : Bool) (x : A) (xs ys : List A) → cond b (x ∷ (xs ++ ys)) (xs ++ ys) ≡ cond b (x ∷ xs) xs ++ ys
cond_both true x xs ys = refl
cond_both false x xs ys = refl

pub entries_both : (number : ℕ → ℕ) (k : ℕ) (ms ns : List Made) → entries_at number k (ms ++ ns) ≡ entries_at number k ms ++ entries_at number k ns
entries_both number k [] ns = refl
entries_both number k (m ∷ ms) ns =
    ap (λ z. cond (is_on k m) (entry (number k) m.step m.reply ∷ z) z) (entries_both number k ms ns)
    ∙ cond_both (is_on k m) (entry (number k) m.step m.reply) (entries_at number k ms) (entries_at number k ns)

pub entries_joined : (xs ys : List Exchange) → entries_of (xs ++ ys) ≡ entries_of xs ++ entries_of ys
entries_joined [] ys = refl
entries_joined (x ∷ xs) ys = ap (λ z. x.entries ++ z) (entries_joined xs ys) ∙ sym (append_assoc x.entries (entries_of xs) (entries_of ys))

-- ---- a list in two parts, by which of its entries are own

record Parts (is_own : ℕ → Bool) (es ms ns : List (Entry Step Reply)) : Type 0 where
  came : List (Entry Step Reply)
  later : List (Entry Step Reply)
  both : es ≡ came ++ later
  own : own_among entry_by is_own came ≡ ms
  own_later : own_among entry_by is_own later ≡ ns
  last : EndsOwn is_own came

ends_cons : (is_own : ℕ → Bool) (e : Entry Step Reply) (es : List (Entry Step Reply)) → EndsOwn is_own es → (es ≡ [] → is_own e.by ≡ true) → EndsOwn is_own (e ∷ es)
ends_cons is_own e es (inl q) h = inr ([], e, ap (λ z. e ∷ z) q, h q)
ends_cons is_own e es (inr q) h = inr (e ∷ q.0, q.1, ap (λ z. e ∷ z) q.2, q.3)

-- where an entry more stands in front, which is own and the first, or neither
module _ (is_own : ℕ → Bool) (e : Entry Step Reply) (es : List (Entry Step Reply)) where
  own_first : (m : Entry Step Reply) (ms ns : List (Entry Step Reply)) → is_own e.by ≡ true → e ≡ m → Parts is_own es ms ns → Parts is_own (e ∷ es) (m ∷ ms) ns
  own_first m ms ns o q h = record {
    came = e ∷ h.came;
    later = h.later;
    both = ap (λ z. e ∷ z) h.both;
    own = ap (λ b. cond b (e ∷ own_among entry_by is_own h.came) (own_among entry_by is_own h.came)) o ∙ (ap (λ z. e ∷ z) h.own ∙ ap (λ z. z ∷ ms) q);
    own_later = h.own_later;
    last = ends_cons is_own e h.came h.last (λ none. o);
  }

  other_first : (m : Entry Step Reply) (ms ns : List (Entry Step Reply)) → is_own e.by ≡ false → Parts is_own es (m ∷ ms) ns → Parts is_own (e ∷ es) (m ∷ ms) ns
  other_first m ms ns o h =
      let some : h.came ≡ [] → is_own e.by ≡ true = λ none. let odd : [] ≡ m ∷ ms = sym (ap (own_among entry_by is_own) none) ∙ h.own in cc in
      record {
        came = e ∷ h.came;
        later = h.later;
        both = ap (λ z. e ∷ z) h.both;
        own = ap (λ b. cond b (e ∷ own_among entry_by is_own h.came) (own_among entry_by is_own h.came)) o ∙ h.own;
        own_later = h.own_later;
        last = ends_cons is_own e h.came h.last some;
      }

  by_first : (b : Bool) (m : Entry Step Reply) (ms ns : List (Entry Step Reply)) → is_own e.by ≡ b → cond b (e ∷ own_among entry_by is_own es) (own_among entry_by is_own es) ≡ m ∷ (ms ++ ns) →
      (own_among entry_by is_own es ≡ ms ++ ns → Parts is_own es ms ns) → (own_among entry_by is_own es ≡ m ∷ (ms ++ ns) → Parts is_own es (m ∷ ms) ns) → Parts is_own (e ∷ es) (m ∷ ms) ns
  by_first true m ms ns o q f g = let t = tail_of e m (own_among entry_by is_own es) (ms ++ ns) q in own_first m ms ns o t.0 (f t.1)
  by_first false m ms ns o q f g = other_first m ms ns o (g q)

parts : (is_own : ℕ → Bool) (es ms ns : List (Entry Step Reply)) → own_among entry_by is_own es ≡ ms ++ ns → Parts is_own es ms ns
parts is_own es [] ns q = record { came = []; later = es; both = refl; own = refl; own_later = q; last = inl refl }
parts is_own [] (m ∷ ms) ns q = let odd : [] ≡ m ∷ (ms ++ ns) = q in cc
parts is_own (e ∷ es) (m ∷ ms) ns q = by_first is_own e es (is_own e.by) m ms ns refl q (parts is_own es ms ns) (parts is_own es (m ∷ ms) ns)

-- ---- the cut

-- of what came, the own entries are these
pub came_own : (a b : DeskView) (ms : List Made) (k : ℕ) (more : List (Entry Step Reply)) → Calls a b ms → b.seen k ≡ a.seen k ++ more →
    own_among entry_by (a.is_own k) more ≡ entries_at a.number k ms
came_own a b ms k more c q =
    cancel (own_entries a k) (own_among entry_by (a.is_own k) more) (entries_at a.number k ms)
    (sym (filter-append (λ e. a.is_own k (entry_by e)) (a.seen k) more)
    ∙ (sym (ap (own_among entry_by (a.is_own k)) q)
    ∙ (sym (own_same entry_by (a.is_own k) (b.is_own k) (b.seen k) (c.same.is_own k)) ∙ c.own k)))

cut_of : (a b : DeskView) (ms ns : List Made) (k : ℕ) → IsHonest a → Calls a b (ms ++ ns) → Cut a b ms ns k
cut_of a b ms ns k h c =
    let more = (c.grown k).0 in
    let p = parts (a.is_own k) more (entries_at a.number k ms) (entries_at a.number k ns) (came_own a b (ms ++ ns) k more c (c.grown k).1 ∙ entries_both a.number k ms ns) in
    let seen : b.seen k ≡ (a.seen k ++ p.came) ++ p.later = (c.grown k).1 ∙ (ap (λ z. a.seen k ++ z) p.both ∙ sym (append_assoc (a.seen k) p.came p.later)) in
    let all : IsLegal step (a.opened k) ((a.seen k ++ p.came) ++ p.later) =
    subst (λ es. IsLegal step (a.opened k) es) seen (subst (λ w. IsLegal step w (b.seen k)) (c.same.opened k) (c.legal k (h.legal k))) in
    let legal = legal_front step (a.opened k) (a.seen k ++ p.came) p.later all in
    record {
      came = p.came;
      later = p.later;
      parts = seen;
      own = p.own;
      own_later = p.own_later;
      last = p.last;
      legal = legal;
      accounted = λ number next is. accounted number next (a.seen k ++ p.came) (subst (λ w. IsLegal step w (a.seen k ++ p.came)) is legal);
      cared = reached_cared _ (reached_after (a.opened k) (a.seen k ++ p.came) (h.opened k) legal);
    }

pub cut_at : (moment : Option ℕ) (end : HttpEnd) (a b : Scene) (served : Served moment end a b) (before after : List Exchange) (k : ℕ) → IsHonest a.desks → served.exchanges ≡ before ++ after →
    Cut a.desks b.desks (entries_of before) (entries_of after) k
cut_at moment end a b served before after k h q =
    cut_of a.desks b.desks (entries_of before) (entries_of after) k h
    (subst (λ ms. Calls a.desks b.desks ms) (ap entries_of q ∙ entries_joined before after) served.calls)
