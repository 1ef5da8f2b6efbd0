-- What the calls of desks do, one after the other.
use Rattle.std.proofs.Common.{◌≡◌, ◌<◌, ℕ, Bool, true, false, cond, ◌||◌, ◌&&◌, ◌==◌, List, [], ◌∷◌, ◌++◌, refl, ap, sym, ◌∙◌, append_assoc, subst}
use Rattle.std.specs.Prelude.{filter}
use Rattle.std.specs.List.{list_any}
use Rattle.std.proofs.lemmas.List.{append-nil}
use Rattle.std.proofs.lemmas.List.Elements.{filter-append}
use Rattle.std.proofs.lemmas.Bool.{eqb-true, eqb-false, eq-eqb}
use Rattle.push_model.specs.declared.entry.Entry.{Entry}
use Rattle.push_model.specs.declared.mail.MailChange.{MailChange}
use Rattle.push_model.specs.declared.step.Step.{Step}
use Rattle.push_model.specs.declared.reply.Reply.{Reply}
use Rattle.push_model.specs.Steps.{proper, step}
use Rattle.push_model.specs.Reached.{IsReached}
use Rattle.push_model.specs.Histories.{IsLegal, AllProper, entry}
use Rattle.push_model.specs.Frames.{NoneBy}
use Rattle.push_model.specs.MailWords.{mail_entry, IsLegalMail}
use Rattle.push_model.specs.DeskViews.{DeskView, own_among, NoneOwn, entry_by, mail_by, own_entries, own_mail, Made, made, is_on, entries_at, Written, written, is_to, written_at, IsFront, IsSameDesk, Calls, Mails, EndsWith, MailEndsWith, IsHonest}

-- ---- own

module _ {A : Type 0} (by : A → ℕ) where
  -- where none is own, none is kept
  none_cons : (is_own : ℕ → Bool) (b : Bool) (x : A) (xs : List A) → b ≡ false → filter (λ y. is_own (by y)) xs ≡ [] → cond b (x ∷ filter (λ y. is_own (by y)) xs) (filter (λ y. is_own (by y)) xs) ≡ []
  none_cons is_own true x xs e h = let odd : true ≡ false = e in cc
  none_cons is_own false x xs e h = h

  pub none_among : (is_own : ℕ → Bool) (xs : List A) → NoneOwn by is_own xs → own_among by is_own xs ≡ []
  none_among is_own [] h = refl
  none_among is_own (x ∷ xs) h = none_cons is_own (is_own (by x)) x xs h.0 (none_among is_own xs h.1)

  -- and the other way round
  kept_cons : (is_own : ℕ → Bool) (b : Bool) (x : A) (ys : List A) → cond b (x ∷ ys) ys ≡ [] → (b ≡ false) × (ys ≡ [])
  kept_cons is_own true x ys e = cc
  kept_cons is_own false x ys e = (refl, e)

  pub none_own : (is_own : ℕ → Bool) (xs : List A) → own_among by is_own xs ≡ [] → NoneOwn by is_own xs
  none_own is_own [] h = tt
  none_own is_own (x ∷ xs) h =
      let k = kept_cons is_own (is_own (by x)) x (own_among by is_own xs) h in
      (k.0, none_own is_own xs k.1)

  -- only what the test says is looked at
  pub own_same : (p q : ℕ → Bool) (xs : List A) → ((n : ℕ) → q n ≡ p n) → own_among by q xs ≡ own_among by p xs
  own_same p q [] e = refl
  own_same p q (x ∷ xs) e = rw (own_same p q xs e, e (by x)) refl

  one_kept : (b : Bool) (x : A) → b ≡ true → cond b (x ∷ []) [] ≡ x ∷ []
  one_kept true x e = refl
  one_kept false x e = let odd : false ≡ true = e in cc

  -- foreign ones came, and then one of the own
  pub own_last : (p q : ℕ → Bool) (xs between : List A) (x : A) → ((n : ℕ) → q n ≡ p n) → NoneOwn by p between → p (by x) ≡ true →
      own_among by q ((xs ++ between) ++ x ∷ []) ≡ own_among by p xs ++ x ∷ []
  own_last p q xs between x e n o =
      own_same p q ((xs ++ between) ++ x ∷ []) e
      ∙ filter-append (λ y. p (by y)) (xs ++ between) (x ∷ [])
      ∙ ap (λ ys. ys ++ own_among by p (x ∷ [])) (filter-append (λ y. p (by y)) xs between)
      ∙ ap (λ ys. (own_among by p xs ++ ys) ++ own_among by p (x ∷ [])) (none_among p between n)
      ∙ ap (λ ys. ys ++ own_among by p (x ∷ [])) (append-nil (own_among by p xs))
      ∙ ap (λ ys. own_among by p xs ++ ys) (one_kept (p (by x)) x o)

-- what none of the own numbers signs, the number that signs doesn't
not_by : (p : ℕ → Bool) (m n : ℕ) → p m ≡ false → p n ≡ true → m ≡ n → ⊥
not_by p m n f t e = let odd : true ≡ false = sym t ∙ (sym (ap p e) ∙ f) in cc

pub none_by : (p : ℕ → Bool) (n : ℕ) (es : List (Entry Step Reply)) → p n ≡ true → NoneOwn entry_by p es → NoneBy n es
none_by p n [] o h = tt
none_by p n (e ∷ es) o h = (not_by p e.by n h.0 o, none_by p n es o h.1)

-- ---- fronts

front_none : {A : Type 0} → (xs : List A) → IsFront xs xs
front_none xs = ([], sym (append-nil xs))

front_more : {A : Type 0} → (xs ys zs : List A) → IsFront xs ys → IsFront ys zs → IsFront xs zs
front_more xs ys zs f g = (f.0 ++ g.0, g.1 ∙ (ap (λ l. l ++ g.0) f.1 ∙ append_assoc xs f.0 g.0))

front_last : {A : Type 0} → (xs between : List A) (x : A) (ys : List A) → ys ≡ (xs ++ between) ++ x ∷ [] → IsFront xs ys
front_last xs between x ys e = (between ++ x ∷ [], e ∙ append_assoc xs between (x ∷ []))

-- ---- the same desks

same_none : (a : DeskView) → IsSameDesk a a
same_none a = record { size = refl; board = λ k. refl; number = λ k. refl; is_own = λ k n. refl; opened = λ k. refl }

same_more : (a b c : DeskView) → IsSameDesk a b → IsSameDesk b c → IsSameDesk a c
same_more a b c f g = record {
  size = g.size ∙ f.size;
  board = λ k. g.board k ∙ f.board k;
  number = λ k. g.number k ∙ f.number k;
  is_own = λ k n. g.is_own k n ∙ f.is_own k n;
  opened = λ k. g.opened k ∙ f.opened k;
}

-- ---- lists of what was made, joined

any_step : (x both left right : Bool) → (x || both) ≡ false → (both ≡ false → (left ≡ false) × (right ≡ false)) → ((x || left) ≡ false) × (right ≡ false)
any_step true both left right e f = let odd : true ≡ false = e in cc
any_step false both left right e f = f e

any_split : {A : Type 0} → (p : A → Bool) (ms ns : List A) → list_any p (ms ++ ns) ≡ false → (list_any p ms ≡ false) × (list_any p ns ≡ false)
any_split p [] ns e = (refl, e)
any_split p (m ∷ ms) ns e = any_step (p m) (list_any p (ms ++ ns)) (list_any p ms) (list_any p ns) e (any_split p ms ns)

entry_more : {A : Type 0} → (here : Bool) (e : A) (xs ys : List A) → cond here (e ∷ (xs ++ ys)) (xs ++ ys) ≡ cond here (e ∷ xs) xs ++ ys
entry_more true e xs ys = refl
entry_more false e xs ys = refl

entries_more : (number : ℕ → ℕ) (k : ℕ) (ms ns : List Made) → entries_at number k (ms ++ ns) ≡ entries_at number k ms ++ entries_at number k ns
entries_more number k [] ns = refl
entries_more number k (m ∷ ms) ns =
    rw (entries_more number k ms ns) (entry_more (is_on k m) (entry (number k) m.step m.reply) (entries_at number k ms) (entries_at number k ns))

-- only the number of that shard is looked at
entries_same : (a b : ℕ → ℕ) (k : ℕ) → b k ≡ a k → (ms : List Made) → entries_at b k ms ≡ entries_at a k ms
entries_same a b k e [] = refl
entries_same a b k e (m ∷ ms) = rw (entries_same a b k e ms, e) refl

written_more : (number : ℕ → ℕ) (k n : ℕ) (vs ws : List Written) → written_at number k n (vs ++ ws) ≡ written_at number k n vs ++ written_at number k n ws
written_more number k n [] ws = refl
written_more number k n (v ∷ vs) ws =
    rw (written_more number k n vs ws) (entry_more (is_to k n v) (mail_entry (number k) v.change) (written_at number k n vs) (written_at number k n ws))

written_same : (a b : ℕ → ℕ) (k n : ℕ) → b k ≡ a k → (ws : List Written) → written_at b k n ws ≡ written_at a k n ws
written_same a b k n e [] = refl
written_same a b k n e (w ∷ ws) = rw (written_same a b k n e ws, e) refl

-- what was own, then these, then those
own_then : {A : Type 0} → (xs ys zs ms ns ks : List A) → ys ≡ xs ++ ms → zs ≡ ys ++ ns → ks ≡ ms ++ ns → zs ≡ xs ++ ks
own_then xs ys zs ms ns ks f g e = g ∙ (ap (λ l. l ++ ns) f ∙ (append_assoc xs ms ns ∙ ap (λ l. xs ++ l) (sym e)))

-- ---- no call

pub calls_none : (a : DeskView) → Calls a a []
calls_none a = record {
  same = same_none a;
  own = λ k. sym (append-nil (own_entries a k));
  grown = λ k. front_none (a.seen k);
  others = λ k e. refl;
  legal = λ k h. h;
  each_proper = λ k h. h;
}

pub mails_none : (a : DeskView) → Mails a a []
mails_none a = record {
  same = same_none a;
  own = λ k n. sym (append-nil (own_mail a k n));
  grown = λ k n. front_none (a.mail k n);
  others = λ k n e. refl;
  legal = λ k n h. h;
}

-- ---- calls, and then calls

pub calls_more : (a b c : DeskView) (ms ns : List Made) → Calls a b ms → Calls b c ns → Calls a c (ms ++ ns)
calls_more a b c ms ns f g = record {
  same = same_more a b c f.same g.same;
  own = λ k. own_then (own_entries a k) (own_entries b k) (own_entries c k) (entries_at a.number k ms) (entries_at a.number k ns) (entries_at a.number k (ms ++ ns))
      (f.own k) (g.own k ∙ ap (λ l. own_entries b k ++ l) (entries_same a.number b.number k (f.same.number k) ns)) (entries_more a.number k ms ns);
  grown = λ k. front_more (a.seen k) (b.seen k) (c.seen k) (f.grown k) (g.grown k);
  others = λ k e. let split = any_split (is_on k) ms ns e in g.others k split.1 ∙ f.others k split.0;
  legal = λ k h. g.legal k (f.legal k h);
  each_proper = λ k h. g.each_proper k (f.each_proper k h);
}

pub mails_more : (a b c : DeskView) (vs ws : List Written) → Mails a b vs → Mails b c ws → Mails a c (vs ++ ws)
mails_more a b c vs ws f g = record {
  same = same_more a b c f.same g.same;
  own = λ k n. own_then (own_mail a k n) (own_mail b k n) (own_mail c k n) (written_at a.number k n vs) (written_at a.number k n ws) (written_at a.number k n (vs ++ ws))
      (f.own k n) (g.own k n ∙ ap (λ l. own_mail b k n ++ l) (written_same a.number b.number k n (f.same.number k) ws)) (written_more a.number k n vs ws);
  grown = λ k n. front_more (a.mail k n) (b.mail k n) (c.mail k n) (f.grown k n) (g.grown k n);
  others = λ k n e. let split = any_split (is_to k n) vs ws e in g.others k n split.1 ∙ f.others k n split.0;
  legal = λ k n h. g.legal k n (f.legal k n h);
}

-- ---- one call, from what it did on its shard and what it left elsewhere

-- what is as before
pub calls_still : (a b : DeskView) → IsSameDesk a b → ((k : ℕ) → b.seen k ≡ a.seen k) → Calls a b []
calls_still a b s h = record {
  same = s;
  own = λ k. own_same entry_by (a.is_own k) (b.is_own k) (b.seen k) (s.is_own k) ∙ (ap (own_among entry_by (a.is_own k)) (h k) ∙ sym (append-nil (own_entries a k)));
  grown = λ k. ([], h k ∙ sym (append-nil (a.seen k)));
  others = λ k e. h k;
  legal = λ k l. rw (s.opened k, h k) l;
  each_proper = λ k l. rw (h k) l;
}

pub mails_still : (a b : DeskView) → IsSameDesk a b → ((k n : ℕ) → b.mail k n ≡ a.mail k n) → Mails a b []
mails_still a b s h = record {
  same = s;
  own = λ k n. own_same mail_by (a.is_own k) (b.is_own k) (b.mail k n) (s.is_own k) ∙ (ap (own_among mail_by (a.is_own k)) (h k n) ∙ sym (append-nil (own_mail a k n)));
  grown = λ k n. ([], h k n ∙ sym (append-nil (a.mail k n)));
  others = λ k n e. h k n;
  legal = λ k n l. rw (h k n) l;
}

-- what a call with a reply on the shard k did
pub record OneCall (a b : DeskView) (k : ℕ) (x : Step) (r : Reply) : Type 0 where
  pub same : IsSameDesk a b
  pub signs : a.is_own k (a.number k) ≡ true
  pub last : EndsWith a b k x r
  pub others : (j : ℕ) → (j ≡ k → ⊥) → b.seen j ≡ a.seen j

off : (b : Bool) → (b || false) ≡ false → b ≡ false
off false e = refl
off true e = let odd : true ≡ false = e in cc

module _ (a b : DeskView) (k : ℕ) (x : Step) (r : Reply) (h : OneCall a b k x r) where
  apart : (j : ℕ) → (k == j) ≡ false → j ≡ k → ⊥
  apart j e is = eqb-false k j e (sym is)

  here : b.seen k ≡ (a.seen k ++ h.last.between) ++ entry (a.number k) x r ∷ []
  here = h.last.seen

  own_here : own_entries b k ≡ own_entries a k ++ entry (a.number k) x r ∷ []
  own_here =
      ap (own_among entry_by (b.is_own k)) here
      ∙ own_last entry_by (a.is_own k) (b.is_own k) (a.seen k) h.last.between (entry (a.number k) x r) (h.same.is_own k) h.last.foreign h.signs

  own_at : (j : ℕ) (c : Bool) → (k == j) ≡ c → own_entries b j ≡ own_entries a j ++ cond c (entry (a.number j) x r ∷ []) []
  own_at j true e = subst (λ (i : ℕ). own_entries b i ≡ own_entries a i ++ entry (a.number i) x r ∷ []) (eqb-true k j e) own_here
  own_at j false e =
      own_same entry_by (a.is_own j) (b.is_own j) (b.seen j) (h.same.is_own j)
      ∙ (ap (own_among entry_by (a.is_own j)) (h.others j (apart j e)) ∙ sym (append-nil (own_entries a j)))

  grown_at : (j : ℕ) (c : Bool) → (k == j) ≡ c → IsFront (a.seen j) (b.seen j)
  grown_at j true e = subst (λ (i : ℕ). IsFront (a.seen i) (b.seen i)) (eqb-true k j e) (front_last (a.seen k) h.last.between (entry (a.number k) x r) (b.seen k) here)
  grown_at j false e = ([], h.others j (apart j e) ∙ sym (append-nil (a.seen j)))

  legal_at : (j : ℕ) (c : Bool) → (k == j) ≡ c → IsLegal step (a.opened j) (a.seen j) → IsLegal step (b.opened j) (b.seen j)
  legal_at j true e l = subst (λ (i : ℕ). IsLegal step (b.opened i) (b.seen i)) (eqb-true k j e) h.last.legal
  legal_at j false e l = rw (h.same.opened j, h.others j (apart j e)) l

  proper_at : (j : ℕ) (c : Bool) → (k == j) ≡ c → AllProper proper (a.seen j) → AllProper proper (b.seen j)
  proper_at j true e l = subst (λ (i : ℕ). AllProper proper (b.seen i)) (eqb-true k j e) h.last.each_proper
  proper_at j false e l = rw (h.others j (apart j e)) l

  pub calls_one : Calls a b (made k x r ∷ [])
  calls_one = record {
    same = h.same;
    own = λ j. own_at j (k == j) refl;
    grown = λ j. grown_at j (k == j) refl;
    others = λ j e. h.others j (apart j (off (k == j) e));
    legal = λ j l. legal_at j (k == j) refl l;
    each_proper = λ j l. proper_at j (k == j) refl l;
  }

-- what a call on the mail word of the shard k and the node n did
pub record OneMail (a b : DeskView) (k n : ℕ) (c : MailChange) : Type 0 where
  pub same : IsSameDesk a b
  pub signs : a.is_own k (a.number k) ≡ true
  pub last : MailEndsWith a b k n c
  pub others : (j m : ℕ) → ((j ≡ k) × (m ≡ n) → ⊥) → b.mail j m ≡ a.mail j m

both : (p q : Bool) → (p && q) ≡ true → (p ≡ true) × (q ≡ true)
both true true e = (refl, refl)
both true false e = let odd : false ≡ true = e in cc
both false q e = let odd : false ≡ true = e in cc

module _ (a b : DeskView) (k n : ℕ) (c : MailChange) (h : OneMail a b k n c) where
  is_here : (j m : ℕ) → ((k == j) && (n == m)) ≡ true → (k ≡ j) × (n ≡ m)
  is_here j m e = let t = both (k == j) (n == m) e in (eqb-true k j t.0, eqb-true n m t.1)

  is_away : (j m : ℕ) → ((k == j) && (n == m)) ≡ false → (j ≡ k) × (m ≡ n) → ⊥
  is_away j m e is =
      let here_too : ((k == j) && (n == m)) ≡ true = rw (eq-eqb k j (sym is.0), eq-eqb n m (sym is.1)) refl in
      let odd : true ≡ false = sym here_too ∙ e in cc

  mail_here : b.mail k n ≡ (a.mail k n ++ h.last.between) ++ mail_entry (a.number k) c ∷ []
  mail_here = h.last.mail

  own_mail_here : own_mail b k n ≡ own_mail a k n ++ mail_entry (a.number k) c ∷ []
  own_mail_here =
      ap (own_among mail_by (b.is_own k)) mail_here
      ∙ own_last mail_by (a.is_own k) (b.is_own k) (a.mail k n) h.last.between (mail_entry (a.number k) c) (h.same.is_own k) h.last.foreign h.signs

  own_mail_at : (j m : ℕ) (t : Bool) → ((k == j) && (n == m)) ≡ t → own_mail b j m ≡ own_mail a j m ++ cond t (mail_entry (a.number j) c ∷ []) []
  own_mail_at j m true e =
      let i = is_here j m e in
      subst (λ (z : ℕ). own_mail b j z ≡ own_mail a j z ++ mail_entry (a.number j) c ∷ []) i.1
      (subst (λ (z : ℕ). own_mail b z n ≡ own_mail a z n ++ mail_entry (a.number z) c ∷ []) i.0 own_mail_here)
  own_mail_at j m false e =
      own_same mail_by (a.is_own j) (b.is_own j) (b.mail j m) (h.same.is_own j)
      ∙ (ap (own_among mail_by (a.is_own j)) (h.others j m (is_away j m e)) ∙ sym (append-nil (own_mail a j m)))

  mail_grown_at : (j m : ℕ) (t : Bool) → ((k == j) && (n == m)) ≡ t → IsFront (a.mail j m) (b.mail j m)
  mail_grown_at j m true e =
      let i = is_here j m e in
      subst (λ (z : ℕ). IsFront (a.mail j z) (b.mail j z)) i.1
      (subst (λ (z : ℕ). IsFront (a.mail z n) (b.mail z n)) i.0 (front_last (a.mail k n) h.last.between (mail_entry (a.number k) c) (b.mail k n) mail_here))
  mail_grown_at j m false e = ([], h.others j m (is_away j m e) ∙ sym (append-nil (a.mail j m)))

  mail_legal_at : (j m : ℕ) (t : Bool) → ((k == j) && (n == m)) ≡ t → IsLegalMail (a.mail j m) → IsLegalMail (b.mail j m)
  mail_legal_at j m true e l =
      let i = is_here j m e in
      subst (λ (z : ℕ). IsLegalMail (b.mail j z)) i.1 (subst (λ (z : ℕ). IsLegalMail (b.mail z n)) i.0 h.last.legal)
  mail_legal_at j m false e l = rw (h.others j m (is_away j m e)) l

  pub mails_one : Mails a b (written k n c ∷ [])
  mails_one = record {
    same = h.same;
    own = λ j m. own_mail_at j m ((k == j) && (n == m)) refl;
    grown = λ j m. mail_grown_at j m ((k == j) && (n == m)) refl;
    others = λ j m e. h.others j m (is_away j m (off ((k == j) && (n == m)) e));
    legal = λ j m l. mail_legal_at j m ((k == j) && (n == m)) refl l;
  }

-- ---- desks that were honest are so after any calls

pub honest_after : (a b : DeskView) (ms : List Made) (ws : List Written) → Calls a b ms → Mails a b ws → IsHonest a → IsHonest b
honest_after a b ms ws f g h = record {
  numbered = λ k low. ap (λ w. w.shard) (f.same.opened k) ∙ h.numbered k (subst (λ (z : ℕ). k < z) f.same.size low);
  opened = λ k. subst IsReached (sym (f.same.opened k)) (h.opened k);
  legal = λ k. f.legal k (h.legal k);
  each_proper = λ k. f.each_proper k (h.each_proper k);
  signs = λ k. ap (b.is_own k) (f.same.number k) ∙ (f.same.is_own k (a.number k) ∙ h.signs k);
  mail = λ k n. g.legal k n (h.mail k n);
}
