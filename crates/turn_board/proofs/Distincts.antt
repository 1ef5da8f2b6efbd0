-- Numbers of which none stands there twice.
use Rattle.std.proofs.Common.{◌≡◌, ℕ, ◌<◌, ◌≤◌, ◌==◌, ◌||◌, Bool, true, false, List, [], ◌∷◌, ◌++◌, length, refl, sym, ap, ◌∙◌, subst, ⊎_elim, arith, eqb, eq-eqb, ne_eqb}
use Rattle.std.specs.List.{IsDistinct, AllByRecursion, list_any}
use Rattle.std.proofs.lemmas.Bool.{eqb-true}
use Rattle.std.proofs.lemmas.Map.Steps.{length-le_from_distinct_below}
use Rattle.turn_board.specs.Numbers.{has, Distinct}
use Rattle.turn_board.proofs.Rows.{none_true, is_false, has_either, has_later, has_first}

pub distinct_front : (xs ys : List ℕ) → Distinct (xs ++ ys) → Distinct xs
distinct_front [] ys d = tt
distinct_front (x ∷ xs) ys d = (has_first xs ys x d.0, distinct_front xs ys d.1)

pub distinct_back : (xs ys : List ℕ) → Distinct (xs ++ ys) → Distinct ys
distinct_back [] ys d = d
distinct_back (x ∷ xs) ys d = distinct_back xs ys d.1

-- a number of the first list is none of the second
pub distinct_apart : (xs ys : List ℕ) → Distinct (xs ++ ys) → (k : ℕ) → has xs k ≡ true → has ys k ≡ true → ⊥
distinct_apart [] ys d k a b = none_true a
distinct_apart (x ∷ xs) ys d k a b = pick (x == k) (λ e. none_true (sym (subst (λ (z : ℕ). has (xs ++ ys) z ≡ false) (eqb-true x k e) d.0) ∙ has_later xs ys k b)) (λ t. distinct_apart xs ys d.1 k t b) a
  where
    pick : (c : Bool) → (c ≡ true → ⊥) → (has xs k ≡ true → ⊥) → (c || has xs k) ≡ true → ⊥
    pick true f g h = f refl
    pick false f g h = g h

pub distinct_append : (xs ys : List ℕ) → Distinct xs → Distinct ys → ((k : ℕ) → has xs k ≡ true → has ys k ≡ true → ⊥) → Distinct (xs ++ ys)
distinct_append [] ys d e apart = e
distinct_append (x ∷ xs) ys d e apart = (
  is_false (has (xs ++ ys) x) (λ t. ⊎_elim (λ a. none_true (sym d.0 ∙ a)) (λ b. apart x (ap (λ (c : Bool). c || has xs x) (eq-eqb x x refl)) b) (has_either xs ys x t)),
  distinct_append xs ys d.1 e (λ k a b. apart k (later (x == k) (has xs k) a) b),
)
  where
    later : (b c : Bool) → c ≡ true → (b || c) ≡ true
    later true c h = refl
    later false c h = h

none_equal : (x : ℕ) (ys : List ℕ) → has ys x ≡ false → AllByRecursion (λ y. eqb x y ≡ false) ys
none_equal x [] h = tt
none_equal x (y ∷ ys) h = (ne_eqb x y (λ e. none_true (sym (both_false (y == x) (has ys x) h).0 ∙ eq-eqb y x (sym e))), none_equal x ys (both_false (y == x) (has ys x) h).1)
  where
    both_false : (b c : Bool) → (b || c) ≡ false → (b ≡ false) × (c ≡ false)
    both_false true c e = cc
    both_false false c e = (refl, e)

is_distinct : (xs : List ℕ) → Distinct xs → IsDistinct eqb xs
unfolding IsDistinct
is_distinct [] d = tt
is_distinct (x ∷ xs) d = (none_equal x xs d.0, is_distinct xs d.1)

has_member : (xs : List ℕ) (q : ℕ) → list_any (eqb q) xs ≡ true → has xs q ≡ true
has_member [] q h = h
has_member (x ∷ xs) q h = pick (eqb q x) (λ e. eq-eqb x q (sym (eqb-true q x e))) (λ t. has_member xs q t) h
  where
    pick : (b : Bool) → (b ≡ true → (x == q) ≡ true) → (list_any (eqb q) xs ≡ true → has xs q ≡ true) → (b || list_any (eqb q) xs) ≡ true → ((x == q) || has xs q) ≡ true
    pick true f g h = ap (λ (c : Bool). c || has xs q) (f refl)
    pick false f g h = later (x == q) (has xs q) (g h)
      where
        later : (b c : Bool) → c ≡ true → (b || c) ≡ true
        later true c e = refl
        later false c e = e

few_below : (xs : List ℕ) (n : ℕ) → Distinct xs → ((k : ℕ) → has xs k ≡ true → k < n) → length xs ≤ n
few_below xs n d below = length-le_from_distinct_below xs n (is_distinct xs d) (λ q h. below q (has_member xs q h))

-- as many numbers below n as there are, of which none stands there twice, are all of them
pub all_there : (xs : List ℕ) (n : ℕ) → Distinct xs → ((k : ℕ) → has xs k ≡ true → k < n) → length xs ≡ n → (k : ℕ) → k < n → has xs k ≡ true
all_there xs n d below full k low = pick (has xs k) refl
  where
    pick : (b : Bool) → has xs k ≡ b → has xs k ≡ true
    pick true e = e
    pick false e = let l = few_below (k ∷ xs) n (e, d) (λ j h. either (k == j) (eqb-true k j) (λ t. below j t) h) in absurd (omega arith)
      where
        either : {j : ℕ} → (b : Bool) → (b ≡ true → k ≡ j) → (has xs j ≡ true → j < n) → (b || has xs j) ≡ true → j < n
        either true f g h = let s = f refl in omega arith
        either false f g h = g h
