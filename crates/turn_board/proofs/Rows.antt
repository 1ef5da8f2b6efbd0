-- Sums over a row of views, numbers that no two of them share, and entries by some numbers.
use Rattle.std.proofs.Common.{◌≡◌, ◌≢◌, ◌⊎◌, ℕ, zero, suc, ◌+◌, ◌≤◌, ◌==◌, ◌||◌, Bool, true, false, cond, List, [], ◌∷◌, ◌++◌, length, set, refl, sym, ap, ◌∙◌, subst, ⊎_elim, inl, inr, arith}
use mathlib.Core.Option.{some, some-ne-none, some-injective}
use lib.ListN.{get_elem?}
use Rattle.atomic_table.proofs.Lists.{at_set, at_snoc}
use Rattle.push_model.specs.declared.entry.Entry.{Entry}
use Rattle.turn_board.specs.Numbers.{has, total, Apart, own_by}
use Rattle.turn_board.specs.Views.{entry_by, own_of}

pub none_true : false ≡ true → ⊥
none_true e = cc

module _ {V : Type 0} where
  pub total_set : (f : V → ℕ) (vs : List V) (i : ℕ) (v w : V) → get_elem? vs i ≡ some v → total f (set vs i w) + f v ≡ total f vs + f w
  total_set f [] i v w e = absurd (some-ne-none v (sym e))
  total_set f (x ∷ xs) zero v w e = let same : f x ≡ f v = ap f (some-injective x v e) in omega arith
  total_set f (x ∷ xs) (suc i) v w e = let h = total_set f xs i v w e in omega arith

  pub total_snoc : (f : V → ℕ) (vs : List V) (v : V) → total f (vs ++ v ∷ []) ≡ total f vs + f v
  total_snoc f [] v = omega arith
  total_snoc f (x ∷ xs) v = let h = total_snoc f xs v in omega arith

  pub total_le : (f g : V → ℕ) (vs : List V) → ((j : ℕ) (v : V) → get_elem? vs j ≡ some v → f v ≤ g v) → total f vs ≤ total g vs
  total_le f g [] each = omega arith
  total_le f g (x ∷ xs) each = let here = each 0 x refl in let h = total_le f g xs (λ j v e. each (suc j) v e) in omega arith

  pub each_set : (P : V → Type 0) (vs : List V) (i : ℕ) (w : V) → ((j : ℕ) (v : V) → j ≢ i → get_elem? vs j ≡ some v → P v) → P w → (j : ℕ) (v : V) → get_elem? (set vs i w) j ≡ some v → P v
  each_set P vs i w others mine j v e = ⊎_elim (λ (t : (j ≡ i) × (w ≡ v)). subst P t.1 mine) (λ (t : (j ≢ i) × (get_elem? vs j ≡ some v)). others j v t.0 t.1) (at_set vs i j w v e)

  pub each_snoc : (P : V → Type 0) (vs : List V) (w : V) → ((j : ℕ) (v : V) → get_elem? vs j ≡ some v → P v) → P w → (j : ℕ) (v : V) → get_elem? (vs ++ w ∷ []) j ≡ some v → P v
  each_snoc P vs w others mine j v e = ⊎_elim (λ t. others j v t) (λ (t : w ≡ v). subst P t mine) (at_snoc vs w v j e)

  -- a view changes, and shares no number with another
  pub apart_set : (f : V → List ℕ) (vs : List V) (i : ℕ) (w : V) → Apart f vs → ((j : ℕ) (v : V) (k : ℕ) → j ≢ i → get_elem? vs j ≡ some v → has (f v) k ≡ true → has (f w) k ≡ true → ⊥) → Apart f (set vs i w)
  apart_set f vs i w apart fresh a b v u k ea eb ha hb = ⊎_elim
      (λ (s : (a ≡ i) × (w ≡ v)). ⊎_elim
      (λ (t : (b ≡ i) × (w ≡ u)). s.0 ∙ sym t.0)
      (λ (t : (b ≢ i) × (get_elem? vs b ≡ some u)). absurd (fresh b u k t.0 t.1 hb (subst (λ (x : V). has (f x) k ≡ true) (sym s.1) ha)))
      (at_set vs i b w u eb))
      (λ (s : (a ≢ i) × (get_elem? vs a ≡ some v)). ⊎_elim
      (λ (t : (b ≡ i) × (w ≡ u)). absurd (fresh a v k s.0 s.1 ha (subst (λ (x : V). has (f x) k ≡ true) (sym t.1) hb)))
      (λ (t : (b ≢ i) × (get_elem? vs b ≡ some u)). apart a b v u k s.1 t.1 ha hb)
      (at_set vs i b w u eb))
      (at_set vs i a w v ea)

  -- a view changes, and has no number that it did not have
  pub apart_within : (f : V → List ℕ) (vs : List V) (i : ℕ) (old w : V) → get_elem? vs i ≡ some old → Apart f vs → ((k : ℕ) → has (f w) k ≡ true → has (f old) k ≡ true) → Apart f (set vs i w)
  apart_within f vs i old w at apart within = apart_set f vs i w apart (λ j v k other e hv hw. other (apart j i v old k e at hv (within k hw)))

  -- a view that has no number comes
  pub apart_snoc : (f : V → List ℕ) (vs : List V) (w : V) → f w ≡ [] → Apart f vs → Apart f (vs ++ w ∷ [])
  apart_snoc f vs w none apart a b v u k ea eb ha hb =
      let out = λ (x : V) (e : w ≡ x) (h : has (f x) k ≡ true). none_true (sym (ap (λ (l : List ℕ). has l k) (sym (ap f e) ∙ none)) ∙ h) in
      ⊎_elim
      (λ (s : get_elem? vs a ≡ some v). ⊎_elim (λ (t : get_elem? vs b ≡ some u). apart a b v u k s t ha hb) (λ (t : w ≡ u). absurd (out u t hb)) (at_snoc vs w u b eb))
      (λ (s : w ≡ v). absurd (out v s ha))
      (at_snoc vs w v a ea)

module _ {A : Type 0} (by : A → ℕ) where
  pub own_by-append : (ns : List ℕ) (xs ys : List A) → own_by by ns (xs ++ ys) ≡ own_by by ns xs ++ own_by by ns ys
  own_by-append ns [] ys = refl
  own_by-append ns (x ∷ xs) ys = step (has ns (by x)) (own_by-append ns xs ys)
    where
      step : (b : Bool) → own_by by ns (xs ++ ys) ≡ own_by by ns xs ++ own_by by ns ys → cond b (x ∷ own_by by ns (xs ++ ys)) (own_by by ns (xs ++ ys)) ≡ cond b (x ∷ own_by by ns xs) (own_by by ns xs) ++ own_by by ns ys
      step true h = ap (λ (l : List A). x ∷ l) h
      step false h = h

  -- no item has a number of none
  pub own_by-none : (es : List A) → own_by by [] es ≡ []
  own_by-none [] = refl
  own_by-none (e ∷ es) = own_by-none es

  pub own_by-one : (ns : List ℕ) (e : A) → has ns (by e) ≡ false → own_by by ns (e ∷ []) ≡ []
  own_by-one ns e h = ap (λ (b : Bool). cond b (e ∷ []) []) h

  pub own_by-mine : (ns : List ℕ) (e : A) → has ns (by e) ≡ true → own_by by ns (e ∷ []) ≡ e ∷ []
  own_by-mine ns e h = ap (λ (b : Bool). cond b (e ∷ []) []) h

module _ {S R : Type 0} where
  pub own_of-append : (ns : List ℕ) (xs ys : List (Entry S R)) → own_of ns (xs ++ ys) ≡ own_of ns xs ++ own_of ns ys
  own_of-append ns xs ys = own_by-append entry_by ns xs ys

  pub own_of-none : (es : List (Entry S R)) → own_of [] es ≡ []
  own_of-none es = own_by-none entry_by es

pub own_of-one : {S R : Type 0} → (ns : List ℕ) (e : Entry S R) → has ns e.by ≡ false → own_of ns (e ∷ []) ≡ []
own_of-one ns e h = ap (λ (b : Bool). cond b (e ∷ []) []) h

-- a test that is not true is false
pub is_false : (b : Bool) → (b ≡ true → ⊥) → b ≡ false
is_false true f = absurd (f refl)
is_false false f = refl

pub has_either : (xs ys : List ℕ) (k : ℕ) → has (xs ++ ys) k ≡ true → (has xs k ≡ true) ⊎ (has ys k ≡ true)
has_either [] ys k h = inr h
has_either (x ∷ xs) ys k h = pick (x == k) (has_either xs ys k) h
  where
    pick : (b : Bool) → (has (xs ++ ys) k ≡ true → (has xs k ≡ true) ⊎ (has ys k ≡ true)) → (b || has (xs ++ ys) k) ≡ true → ((b || has xs k) ≡ true) ⊎ (has ys k ≡ true)
    pick true f g = inl refl
    pick false f g = f g

pub has_sooner : (xs ys : List ℕ) (k : ℕ) → has xs k ≡ true → has (xs ++ ys) k ≡ true
has_sooner [] ys k h = absurd (none_true h)
has_sooner (x ∷ xs) ys k h = pick (x == k) (has_sooner xs ys k) h
  where
    pick : (b : Bool) → (has xs k ≡ true → has (xs ++ ys) k ≡ true) → (b || has xs k) ≡ true → (b || has (xs ++ ys) k) ≡ true
    pick true f g = refl
    pick false f g = f g

pub has_later : (xs ys : List ℕ) (k : ℕ) → has ys k ≡ true → has (xs ++ ys) k ≡ true
has_later [] ys k h = h
has_later (x ∷ xs) ys k h = pick (x == k) (has_later xs ys k h)
  where
    pick : (b : Bool) → has (xs ++ ys) k ≡ true → (b || has (xs ++ ys) k) ≡ true
    pick true f = refl
    pick false f = f

pub has_first : (xs ys : List ℕ) (k : ℕ) → has (xs ++ ys) k ≡ false → has xs k ≡ false
has_first xs ys k h = is_false (has xs k) (λ t. none_true (sym h ∙ has_sooner xs ys k t))

pub has_second : (xs ys : List ℕ) (k : ℕ) → has (xs ++ ys) k ≡ false → has ys k ≡ false
has_second xs ys k h = is_false (has ys k) (λ t. none_true (sym h ∙ has_later xs ys k t))

pub none_in : {A : Type 0} → (xs : List A) → length xs ≡ 0 → xs ≡ []
none_in [] h = refl
none_in (x ∷ xs) h = absurd (omega arith)

module _ {V : Type 0} where
  pub one_total : (f : V → ℕ) (vs : List V) (i : ℕ) (v : V) → get_elem? vs i ≡ some v → f v ≤ total f vs
  one_total f [] i v e = absurd (some-ne-none v (sym e))
  one_total f (x ∷ xs) zero v e = let same : f x ≡ f v = ap f (some-injective x v e) in omega arith
  one_total f (x ∷ xs) (suc i) v e = let h = one_total f xs i v e in omega arith

  pub two_total : (f : V → ℕ) (vs : List V) (i j : ℕ) (v w : V) → i ≢ j → get_elem? vs i ≡ some v → get_elem? vs j ≡ some w → f v + f w ≤ total f vs
  two_total f [] i j v w other e g = absurd (some-ne-none v (sym e))
  two_total f (x ∷ xs) zero zero v w other e g = absurd (other refl)
  two_total f (x ∷ xs) zero (suc j) v w other e g = let same : f x ≡ f v = ap f (some-injective x v e) in let h = one_total f xs j w g in omega arith
  two_total f (x ∷ xs) (suc i) zero v w other e g = let same : f x ≡ f w = ap f (some-injective x w g) in let h = one_total f xs i v e in omega arith
  two_total f (x ∷ xs) (suc i) (suc j) v w other e g = let h = two_total f xs i j v w (λ q. other (ap suc q)) e g in omega arith

  at_end : (vs : List V) (w v : V) (j : ℕ) → get_elem? (vs ++ w ∷ []) j ≡ some v → (get_elem? vs j ≡ some v) ⊎ ((j ≡ length vs) × (w ≡ v))
  at_end [] w v zero e = inr (refl, some-injective w v e)
  at_end [] w v (suc j) e = absurd (some-ne-none v (sym e))
  at_end (x ∷ xs) w v zero e = inl e
  at_end (x ∷ xs) w v (suc j) e = ⊎_elim inl (λ t. inr (ap suc t.0, t.1)) (at_end xs w v j e)

  -- a view comes that shares no number with another
  pub apart_more : (f : V → List ℕ) (vs : List V) (w : V) → Apart f vs → ((j : ℕ) (v : V) (k : ℕ) → get_elem? vs j ≡ some v → has (f v) k ≡ true → has (f w) k ≡ true → ⊥) → Apart f (vs ++ w ∷ [])
  apart_more f vs w apart fresh a b v u k ea eb ha hb = ⊎_elim
      (λ (s : get_elem? vs a ≡ some v). ⊎_elim
      (λ (t : get_elem? vs b ≡ some u). apart a b v u k s t ha hb)
      (λ (t : (b ≡ length vs) × (w ≡ u)). absurd (fresh a v k s ha (subst (λ (x : V). has (f x) k ≡ true) (sym t.1) hb)))
      (at_end vs w u b eb))
      (λ (s : (a ≡ length vs) × (w ≡ v)). ⊎_elim
      (λ (t : get_elem? vs b ≡ some u). absurd (fresh b u k t hb (subst (λ (x : V). has (f x) k ≡ true) (sym s.1) ha)))
      (λ (t : (b ≡ length vs) × (w ≡ u)). s.0 ∙ sym t.0)
      (at_end vs w u b eb))
      (at_end vs w v a ea)

  pub set_swap : (vs : List V) (i j : ℕ) (a b : V) → i ≢ j → set (set vs i a) j b ≡ set (set vs j b) i a
  set_swap [] i j a b other = refl
  set_swap (x ∷ xs) zero zero a b other = absurd (other refl)
  set_swap (x ∷ xs) zero (suc j) a b other = refl
  set_swap (x ∷ xs) (suc i) zero a b other = refl
  set_swap (x ∷ xs) (suc i) (suc j) a b other = ap (λ (l : List V). x ∷ l) (set_swap xs i j a b (λ q. other (ap suc q)))
