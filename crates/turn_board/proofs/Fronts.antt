-- Two beginnings of one list.
use Rattle.std.specs.Prelude.{ltb}
use Rattle.std.proofs.Common.{◌≡◌, ℕ, zero, suc, ◌<◌, ◌≤◌, Bool, true, false, cond, List, [], ◌∷◌, ◌++◌, length, get_or, refl, sym, ap, ◌∙◌, ⊎_elim, arith, append-nil}
use Rattle.std.proofs.lemmas.Bool.{ltb-true, ltb-false, lt-ltb}
use Rattle.turn_board.specs.Numbers.{has, own_by, GrewByOthers, longer}
use Rattle.turn_board.specs.Views.{longer_each}
use Rattle.turn_board.proofs.Rows.{none_true, is_false, has_either, own_by-append}

module _ {A : Type 0} (by : A → ℕ) where
  pub own_by-front : (ns : List ℕ) (xs ys : List A) → own_by by ns (xs ++ ys) ≡ [] → own_by by ns xs ≡ []
  own_by-front ns xs ys h = first_none (own_by by ns xs) (own_by by ns ys) (sym (own_by-append by ns xs ys) ∙ h)
    where
      first_none : (a b : List A) → a ++ b ≡ [] → a ≡ []
      first_none [] b e = refl
      first_none (x ∷ xs) b e = absurd (cc)

  pub own_by-back : (ns : List ℕ) (xs ys : List A) → own_by by ns (xs ++ ys) ≡ [] → own_by by ns ys ≡ []
  own_by-back ns xs ys h = second_none (own_by by ns xs) (own_by by ns ys) (sym (own_by-append by ns xs ys) ∙ h)
    where
      second_none : (a b : List A) → a ++ b ≡ [] → b ≡ []
      second_none [] b e = e
      second_none (x ∷ xs) b e = absurd (cc)

  pub own_by-both : (a b : List ℕ) (es : List A) → own_by by a es ≡ [] → own_by by b es ≡ [] → own_by by (a ++ b) es ≡ []
  own_by-both a b [] ha hb = refl
  own_by-both a b (e ∷ es) ha hb =
      let fa = neither (has a (by e)) e (own_by by a es) ha in
      let fb = neither (has b (by e)) e (own_by by b es) hb in
      let f : has (a ++ b) (by e) ≡ false = is_false (has (a ++ b) (by e)) (λ t. ⊎_elim (λ u. none_true (sym fa.0 ∙ u)) (λ u. none_true (sym fb.0 ∙ u)) (has_either a b (by e) t)) in
      ap (λ (c : Bool). cond c (e ∷ own_by by (a ++ b) es) (own_by by (a ++ b) es)) f ∙ own_by-both a b es fa.1 fb.1
    where
      neither : (c : Bool) (e : A) (xs : List A) → cond c (e ∷ xs) xs ≡ [] → (c ≡ false) × (xs ≡ [])
      neither true e xs h = absurd (cc)
      neither false e xs h = (refl, h)

  -- of two beginnings of one list the shorter begins the longer
  prefix_of : (a x b y : List A) → a ++ x ≡ b ++ y → length a ≤ length b → (mid : List A) × (b ≡ a ++ mid) × (x ≡ mid ++ y)
  prefix_of [] x b y e l = (b, refl, e)
  prefix_of (p ∷ ps) x [] y e l = absurd (omega arith)
  prefix_of (p ∷ ps) x (q ∷ qs) y e l =
      let heads : p ≡ q = cc in
      let tails : ps ++ x ≡ qs ++ y = cc in
      let h = prefix_of ps x qs y tails (omega arith) in
      (h.0, (λ i. sym heads i ∷ h.1 i), h.2)

  -- what two seats' lists are to the longer one, and that one to the whole
  pub record Both (ns ms : List ℕ) (all a b l : List A) : Type 0 where
    pub whole : GrewByOthers by (ns ++ ms) l all
    pub first : GrewByOthers by ns a l
    pub second : GrewByOthers by ms b l

  for_longer : (P : List A → Type 0) (xs ys : List A) → (length xs < length ys → P ys) → (length ys ≤ length xs → P xs) → P (longer xs ys)
  for_longer P xs ys short long = pick (ltb (length xs) (length ys)) (λ e. short (ltb-true (length xs) (length ys) e)) (λ e. long (ltb-false (length xs) (length ys) e))
    where
      pick : (c : Bool) → (c ≡ true → P ys) → (c ≡ false → P xs) → P (cond c ys xs)
      pick true f g = f refl
      pick false f g = g refl

  -- the longer one has what both have seen, and none of their numbers signs more
  pub both_seen : (ns ms : List ℕ) (all a b : List A) → GrewByOthers by ns a all → GrewByOthers by ms b all → Both ns ms all a b (longer a b)
  both_seen ns ms all a b ha hb =
      let x : List A = ha.0 in
      let y : List A = hb.0 in
      for_longer (Both ns ms all a b) a b
      (λ low.
      let m = prefix_of a x b y (sym ha.1 ∙ hb.1) (omega arith) in
      let mine : own_by by ns (m.0 ++ y) ≡ [] = ap (own_by by ns) (sym m.2) ∙ ha.2 in record {
        whole = (y, hb.1, own_by-both ns ms y (own_by-back ns m.0 y mine) hb.2);
        first = (m.0, m.1, own_by-front ns m.0 y mine);
        second = ([], sym (append-nil b), refl);
      })
      (λ low.
      let m = prefix_of b y a x (sym hb.1 ∙ ha.1) low in
      let theirs : own_by by ms (m.0 ++ x) ≡ [] = ap (own_by by ms) (sym m.2) ∙ hb.2 in record {
        whole = (x, ha.1, own_by-both ns ms x ha.2 (own_by-back ms m.0 x theirs));
        first = ([], sym (append-nil a), refl);
        second = (m.0, m.1, own_by-front ms m.0 x theirs);
      })

longer_none : {A : Type 0} → (xs : List A) → longer [] xs ≡ xs
longer_none [] = refl
longer_none (x ∷ xs) = ap (λ (c : Bool). cond c (x ∷ xs) []) (lt-ltb 0 (length (x ∷ xs)) (omega arith))

longer_more : {A : Type 0} → (xs : List A) → longer xs [] ≡ xs
longer_more [] = refl
longer_more (x ∷ xs) = ap (λ (c : Bool). cond c [] (x ∷ xs)) (is_false (ltb (length (x ∷ xs)) 0) (λ t. let l = ltb-true (length (x ∷ xs)) 0 t in omega arith))

-- at each place it is the longer one of that place
pub at_longer_each : {A : Type 0} → (xs ys : List (List A)) (k : ℕ) → get_or (longer_each xs ys) k [] ≡ longer (get_or xs k []) (get_or ys k [])
at_longer_each [] ys k = sym (longer_none (get_or ys k []))
at_longer_each (x ∷ xs) [] k = sym (longer_more (get_or (x ∷ xs) k []))
at_longer_each (x ∷ xs) (y ∷ ys) zero = refl
at_longer_each (x ∷ xs) (y ∷ ys) (suc k) = at_longer_each xs ys k
