-- How many elements of a list pass a test, by recursion, and what changes of a list do to that.
use Rattle.std.proofs.Common.{◌≡◌, ℕ, ◌+◌, ◌≤◌, Bool, true, false, ◌||◌, cond, inl, inr, List, [], ◌∷◌, ◌++◌, filter, refl, ◌∙◌, ap, sym, arith, Ordering, Less, Equal, Greater}
use Rattle.std.specs.Prelude.{map, Option, Some, None, count_by}
use Rattle.std.specs.List.{list_any, flat_map}
use Rattle.std.proofs.lemmas.List.Recursion.{is_sum_by}
use Rattle.std.specs.Prelude.{if◌then◌else◌}
use Rattle.std.specs.Ordering.{nat_cmp, is_eq, match_ordering}
use Rattle.std.specs.BTreeMap.{insert_entry}
use Rattle.std.specs.Map.{lookup, set_value, remove_entry}
use Rattle.push_model.specs.declared.ids.Uaid.{Uaid}
use Rattle.push_model.specs.Keyed.{with_first, without_first}
use Rattle.push_model.specs.Cells.{Cell, empty_cell, is_there}
use Rattle.push_model.specs.Worlds.{found_or_empty, cell_at, put_beside, with_cell, each}
use Rattle.push_model.proofs.Members.{In}
use Rattle.push_model.proofs.Single.{Single, NonePass}
use Rattle.push_model.proofs.Entries.{at, rem_same}

abbrev pub one : Bool → ℕ
one b = cond b 1 0

module _ {A : Type 0} (p : A → Bool) where
  abbrev pub amount : List A → ℕ
  amount [] = 0
  amount (x ∷ xs) = one (p x) + amount xs

  pub counted : (xs : List A) → count_by p xs ≡ amount xs
  counted xs = sym (is_sum_by amount (λ x. one (p x)) refl (λ x ys. refl) xs)

  pub amount-append : (xs ys : List A) → amount (xs ++ ys) ≡ amount xs + amount ys
  amount-append [] ys = omega arith
  amount-append (x ∷ xs) ys = let h = amount-append xs ys in omega (arith, h)

  pub amount-snoc : (xs : List A) (y : A) → amount (xs ++ y ∷ []) ≡ amount xs + one (p y)
  amount-snoc xs y = let h = amount-append xs (y ∷ []) in omega (arith, h)

  filter_cons : (b : Bool) (x : A) (ys xs : List A) → amount ys ≤ amount xs → amount (cond b (x ∷ ys) ys) ≤ one (p x) + amount xs
  filter_cons true x ys xs h = omega (arith, h)
  filter_cons false x ys xs h = omega (arith, h)

  pub amount-filter : (q : A → Bool) (xs : List A) → amount (filter q xs) ≤ amount xs
  amount-filter q [] = omega arith
  amount-filter q (x ∷ xs) = filter_cons (q x) x (filter q xs) xs (amount-filter q xs)

  without_cons : (b : Bool) (x : A) (ys xs : List A) → amount ys ≤ amount xs → amount (cond b xs (x ∷ ys)) ≤ one (p x) + amount xs
  without_cons true x ys xs h = omega arith
  without_cons false x ys xs h = omega (arith, h)

  pub amount-without : (q : A → Bool) (xs : List A) → amount (without_first q xs) ≤ amount xs
  amount-without q [] = omega arith
  amount-without q (x ∷ xs) = without_cons (q x) x (without_first q xs) xs (amount-without q xs)

  with_cons : (f : A → A) (b : Bool) (x : A) (ys xs : List A) → p (f x) ≡ p x → amount ys ≡ amount xs →
      amount (cond b (f x ∷ xs) (x ∷ ys)) ≡ one (p x) + amount xs
  with_cons f true x ys xs e h = ap (λ b. one b + amount xs) e
  with_cons f false x ys xs e h = omega (arith, h)

  pub amount-with : (q : A → Bool) (f : A → A) (xs : List A) → ((x : A) → p (f x) ≡ p x) → amount (with_first q f xs) ≡ amount xs
  amount-with q f [] g = refl
  amount-with q f (x ∷ xs) g = with_cons f (q x) x (with_first q f xs) xs (g x) (amount-with q f xs g)

  pub amount-map : (f : A → A) (xs : List A) → ((x : A) → p (f x) ≡ p x) → amount (map f xs) ≡ amount xs
  amount-map f [] g = refl
  amount-map f (x ∷ xs) g = let h = amount-map f xs g in let e : one (p (f x)) ≡ one (p x) = ap one (g x) in omega (arith, h, e)

  moved_cons : (b c : Bool) (x : A) (q : A → Bool) (xs : List A) → q x ≡ b → (q x ≡ true → p x ≡ c) → (b || list_any q xs) ≡ true →
      (list_any q xs ≡ true → amount (without_first q xs) + one c ≡ amount xs) → amount (cond b xs (x ∷ without_first q xs)) + one c ≡ one (p x) + amount xs
  moved_cons true c x q xs e f h g = let k : one (p x) ≡ one c = ap one (f e) in omega (arith, k)
  moved_cons false c x q xs e f h g = let k = g h in omega (arith, k)

  -- one that passes q goes
  pub amount-moved : (c : Bool) (q : A → Bool) (xs : List A) → ((x : A) → q x ≡ true → p x ≡ c) → list_any q xs ≡ true →
      amount (without_first q xs) + one c ≡ amount xs
  amount-moved c q [] f h = cc
  amount-moved c q (x ∷ xs) f h = moved_cons (q x) c x q xs refl (f x) h (amount-moved c q xs f)

  pub amount-none : (xs : List A) → ((x : A) → In x xs → p x ≡ false) → amount xs ≡ 0
  amount-none [] f = refl
  amount-none (x ∷ xs) f =
      let h = amount-none xs (λ y i. f y (inr i)) in let e : one (p x) ≡ 0 = ap one (f x (inl refl)) in omega (arith, h, e)

  single_cons : (b : Bool) (x : A) (xs : List A) → p x ≡ b → (p x ≡ true → NonePass p xs) → amount xs ≤ 1 → one (p x) + amount xs ≤ 1
  single_cons true x xs e f h = let k = amount-none xs (f e) in let l : one (p x) ≡ 1 = ap one e in omega (arith, k, l)
  single_cons false x xs e f h = let l : one (p x) ≡ 0 = ap one e in omega (arith, h, l)

  pub amount-single : (xs : List A) → Single p xs → amount xs ≤ 1
  amount-single [] d = omega arith
  amount-single (x ∷ xs) d = single_cons (p x) x xs refl d.0 (amount-single xs d.1)

  no_head : (b : Bool) (n : ℕ) → one b + n ≡ 0 → (b ≡ false) × (n ≡ 0)
  no_head true n e = absurd (omega (arith, e))
  no_head false n e = (refl, omega (arith, e))

  -- where none passes
  pub amount-zero : (x : A) (xs : List A) → amount xs ≡ 0 → In x xs → p x ≡ false
  amount-zero x [] e i = elim i [ ]
  amount-zero x (y ∷ xs) e (inl q) = ap p q ∙ (no_head (p y) (amount xs) e).0
  amount-zero x (y ∷ xs) e (inr i) = amount-zero x xs (no_head (p y) (amount xs) e).1 i

-- ---- sums over the cells

-- g of each cell, summed
abbrev pub total : (Cell → ℕ) → List (ℕ × Cell) → ℕ
total g [] = 0
total g (e ∷ es) = g e.1 + total g es

pub amount-flat : {A : Type 0} (p : A → Bool) (f : ℕ × Cell → List A) (g : Cell → ℕ) (es : List (ℕ × Cell)) →
    ((e : ℕ × Cell) → amount p (f e) ≡ g e.1) → amount p (flat_map f es) ≡ total g es
amount-flat p f g [] h = refl
amount-flat p f g (e ∷ es) h =
    let a = amount-append p (f e) (flat_map f es) in let b = h e in let c = amount-flat p f g es h in omega (arith, a, b, c)

module _ (g : Cell → ℕ) where
  set_cons : (v c : Cell) (b : Bool) (d : ℕ × Cell) (es fs : List (ℕ × Cell)) (o : Option Cell) → cond b (Some d.1) o ≡ Some c →
      (o ≡ Some c → total g fs + g c ≡ total g es + g v) → total g (cond b ((d.0, v) ∷ es) (d ∷ fs)) + g c ≡ g d.1 + total g es + g v
  set_cons v c true d es fs o h f = let k : d.1 ≡ c = cc in let l : g d.1 ≡ g c = ap g k in omega (arith, l)
  set_cons v c false d es fs o h f = let k = f h in omega (arith, k)

  pub total-set : (n : ℕ) (c v : Cell) (es : List (ℕ × Cell)) → lookup (at n) es ≡ Some c → total g (set_value (at n) es v) + g c ≡ total g es + g v
  total-set n c v [] h = cc
  total-set n c v (d ∷ es) h = set_cons v c (at n d.0) d es (set_value (at n) es v) (lookup (at n) es) h (total-set n c v es)

  ins_cons : (n : ℕ) (v : Cell) (o : Ordering) (d : ℕ × Cell) (es fs : List (ℕ × Cell)) (l : Option Cell) → cond (is_eq o) (Some d.1) l ≡ None →
      (l ≡ None → total g fs ≡ total g es + g v) → total g (match_ordering o ((n, v) ∷ d ∷ es) ((d.0, v) ∷ es) (d ∷ fs)) ≡ g d.1 + total g es + g v
  ins_cons n v Less d es fs l h f = omega arith
  ins_cons n v Equal d es fs l h f = cc
  ins_cons n v Greater d es fs l h f = let k = f h in omega (arith, k)

  pub total-insert : (n : ℕ) (v : Cell) (es : List (ℕ × Cell)) → lookup (at n) es ≡ None → total g (insert_entry nat_cmp es n v) ≡ total g es + g v
  total-insert n v [] h = omega arith
  total-insert n v (d ∷ es) h = ins_cons n v (nat_cmp n d.0) d es (insert_entry nat_cmp es n v) (lookup (at n) es) h (total-insert n v es)

  rem_cons : (c : Cell) (b : Bool) (d : ℕ × Cell) (es fs : List (ℕ × Cell)) (o : Option Cell) → cond b (Some d.1) o ≡ Some c →
      (o ≡ Some c → total g fs + g c ≡ total g es) → total g (cond b es (d ∷ fs)) + g c ≡ g d.1 + total g es
  rem_cons c true d es fs o h f = let k : d.1 ≡ c = cc in let l : g d.1 ≡ g c = ap g k in omega (arith, l)
  rem_cons c false d es fs o h f = let k = f h in omega (arith, k)

  pub total-remove : (n : ℕ) (c : Cell) (es : List (ℕ × Cell)) → lookup (at n) es ≡ Some c → total g (remove_entry (at n) es) + g c ≡ total g es
  total-remove n c [] h = cc
  total-remove n c (d ∷ es) h = rem_cons c (at n d.0) d es (remove_entry (at n) es) (lookup (at n) es) h (total-remove n c es)

  beside : (u : Uaid) (v : Cell) (es : List (ℕ × Cell)) (o : Option Cell) → g (empty_cell u) ≡ 0 → lookup (at u.0) es ≡ o →
      total g (put_beside o u v es) + g (found_or_empty o u) ≡ total g es + g v
  beside u v es None z h = let k = total-insert u.0 v es h in omega (arith, k, z)
  beside u v es (Some c) z h = total-set u.0 c v es h

  removed : (u : Uaid) (v : Cell) (es : List (ℕ × Cell)) (o : Option Cell) → g (empty_cell u) ≡ 0 → g v ≡ 0 → lookup (at u.0) es ≡ o →
      total g (remove_entry (at u.0) es) + g (found_or_empty o u) ≡ total g es + g v
  removed u v es None z y h = let k : total g (remove_entry (at u.0) es) ≡ total g es = ap (total g) (rem_same u.0 es h) in omega (arith, k, z, y)
  removed u v es (Some c) z y h = let k = total-remove u.0 c es h in omega (arith, k, y)

  put_or_gone : (u : Uaid) (v : Cell) (es : List (ℕ × Cell)) (b : Bool) → g (empty_cell u) ≡ 0 → (b ≡ false → g v ≡ 0) →
      total g (if b then put_beside (lookup (at u.0) es) u v es else remove_entry (at u.0) es) + g (cell_at es u) ≡ total g es + g v
  put_or_gone u v es true z y = beside u v es (lookup (at u.0) es) z refl
  put_or_gone u v es false z y = removed u v es (lookup (at u.0) es) z (y refl) refl

  -- v takes the place of the user's cell
  pub total-put : (u : Uaid) (v : Cell) (es : List (ℕ × Cell)) → g (empty_cell u) ≡ 0 → (is_there v ≡ false → g v ≡ 0) →
      total g (with_cell u v es) + g (cell_at es u) ≡ total g es + g v
  total-put u v es z y = put_or_gone u v es (is_there v) z y

  pub total-each : (f : Cell → Cell) (es : List (ℕ × Cell)) → ((c : Cell) → g (f c) ≤ g c) → total g (each f es) ≤ total g es
  total-each f [] h = omega arith
  total-each f (e ∷ es) h = let a = h e.1 in let b = total-each f es h in omega (arith, a, b)

  -- where each is 0
  pub total-none : (es : List (ℕ × Cell)) → ((e : ℕ × Cell) → In e es → g e.1 ≡ 0) → total g es ≡ 0
  total-none [] h = refl
  total-none (e ∷ es) h = let a = h e (inl refl) in let b = total-none es (λ d i. h d (inr i)) in omega (arith, a, b)

  part_zero : (a b : ℕ) → a + b ≡ 0 → (a ≡ 0) × (b ≡ 0)
  part_zero a b e = (omega (arith, e), omega (arith, e))

  pub total-zero : (e : ℕ × Cell) (es : List (ℕ × Cell)) → total g es ≡ 0 → In e es → g e.1 ≡ 0
  total-zero e [] h i = elim i [ ]
  total-zero e (d ∷ es) h (inl q) = ap (λ x. g x.1) q ∙ (part_zero (g d.1) (total g es) h).0
  total-zero e (d ∷ es) h (inr i) = total-zero e es (part_zero (g d.1) (total g es) h).1 i
