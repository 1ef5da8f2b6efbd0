-- Numbers that sign items, and rows of views whose numbers are their own.
use Rattle.std.specs.Prelude.{◌≡◌, ℕ, ◌+◌, ◌==◌, Bool, true, false, cond, List, [], ◌∷◌, ◌++◌, length, ltb, filter}
use Rattle.std.specs.List.{list_any}
use mathlib.Core.Option.{some}
use lib.ListN.{get_elem?}

-- 2^64, at which a word wraps
abbrev pub word_size : ℕ
word_size = 18446744073709551616

-- 2^63, the most numbers that a board gives to passes
abbrev pub most_seats : ℕ
most_seats = 9223372036854775808

-- whether the number is among them
abbrev pub has : List ℕ → ℕ → Bool
has ns k = list_any (λ x. x == k) ns

-- no number stands there twice
abbrev pub Distinct : List ℕ → Type 0
Distinct [] = Unit {0}
Distinct (x ∷ xs) = (has xs x ≡ false) × Distinct xs

-- the sum of f over the list
abbrev pub total : {V : Type 0} → (V → ℕ) → List V → ℕ
total f [] = 0
total f (v ∷ vs) = f v + total f vs

-- no two elements have a number in common
abbrev pub Apart : {V : Type 0} → (V → List ℕ) → List V → Type 0
Apart {V} f vs = (i j : ℕ) (v w : V) (k : ℕ) → get_elem? vs i ≡ some v → get_elem? vs j ≡ some w → has (f v) k ≡ true → has (f w) k ≡ true → i ≡ j

module _ {A : Type 0} (by : A → ℕ) where
  -- the items that are signed by one of these numbers
  abbrev pub own_by : List ℕ → List A → List A
  own_by ns xs = filter (λ x. has ns (by x)) xs

  -- the list ys begins with xs, and nothing after it is signed by one of these numbers
  abbrev pub GrewByOthers : List ℕ → List A → List A → Type 0
  GrewByOthers ns xs ys = (more : List A) × (ys ≡ xs ++ more) × (own_by ns more ≡ [])

-- of two beginnings of one list the longer
abbrev pub longer : {A : Type 0} → List A → List A → List A
longer xs ys = cond (ltb (length xs) (length ys)) ys xs
