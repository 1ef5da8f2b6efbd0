-- A numeral of hexadecimal digits is what its number is written as, and no other text is.
use Rattle.std.proofs.Common.{◌≡◌, ◌≢◌, ℕ, zero, suc, ◌+◌, ◌*◌, ◌/◌, ◌%◌, ◌^◌, ◌<◌, ◌≤◌, true, false, List, [], ◌∷◌, ◌++◌, length, get_or, Some, None, refl, ap, subst, ◌∙◌, ◌-◌, arith, inl, inr, zero-add}
use Rattle.std.specs.Char.{digit_value}
use Rattle.std.specs.Fmt.{digits, digits_onto, digit_glyph}
use Rattle.std.specs.List.{list_all}
use Rattle.std.specs.Str.Parse.{digits_value, digits_value_after, AllDigits}
use Rattle.std.proofs.lemmas.Bool.{and_parts, cases_lt}
use Rattle.std.proofs.lemmas.Bool.Decides.{nat_tests}
use Rattle.std.proofs.lemmas.Int.Digits.{digits_value-lt}
use Rattle.std.proofs.lemmas.List.{append-nil}
use Rattle.std.proofs.lemmas.Nat.{pow-add}
use Rattle.std.proofs.Math.Nat.{pow-le-pow_right}
use Rattle.schedule_text.specs.Reading.{is_digit, AreNumeral, numeral_value}
use Rattle.schedule_text.proofs.HexDigits.{writes_digit, writes_last}
use Rattle.schedule_text.proofs.Numerals.{base16, value_some, value_none}

-- ---- one digit

value_below : (c : ℕ) → is_digit c ≡ true → digit_value c < 16
value_below c h = grind (arith, nat_tests)

value_some_digit : (c : ℕ) → is_digit c ≡ true → c ≢ 48 → 1 ≤ digit_value c
value_some_digit c h other = grind (arith, nat_tests)

glyph_again : (c : ℕ) → is_digit c ≡ true → digit_glyph false (digit_value c) ≡ c
glyph_again c h = grind (arith, nat_tests)

glyph_digit : (d : ℕ) → d < 16 → is_digit (digit_glyph false d) ≡ true
glyph_digit d lt = grind (arith, nat_tests)

glyph_front : (d : ℕ) → d < 16 → 0 < d → digit_glyph false d ≢ 48
glyph_front d lt some = grind (arith, nat_tests)

-- ---- a numeral is written again

-- behind a number that isn't 0
goes_on : (k n : ℕ) (ds acc : List ℕ) → 1 ≤ n → list_all is_digit ds ≡ true → digits_onto (length ds + k) 16 false (digits_value_after 16 n ds) acc ≡ digits_onto k 16 false n (ds ++ acc)
goes_on k n [] acc low all = rw (zero-add k) refl
goes_on k n (c ∷ cs) acc low all =
    let p = and_parts (is_digit c) (list_all is_digit cs) all in
    let v : ℕ = digit_value c in
    let lt : v < 16 = value_below c p.0 in
    let first : (n * 16 + v) / 16 ≡ n = omega arith in
    let second : (n * 16 + v) % 16 ≡ v = omega arith in
    let fuel : suc (length cs) + k ≡ length cs + suc k = omega arith in
    rw fuel (goes_on (suc k) (n * 16 + v) cs acc (omega arith) p.1 ∙ writes_digit k (n * 16 + v) (cs ++ acc) (omega arith) ∙ rw (first, second, glyph_again c p.0) refl)

written : (w : List ℕ) → AreNumeral w → length w ≤ 64 → digits 16 false (digits_value 16 w) ≡ w
unfolding digits
written [] h short = absurd (omega (arith, h.some))
written (c ∷ []) h short =
    let p = and_parts (is_digit c) true h.all in
    let one : 0 * 16 + digit_value c ≡ digit_value c = omega arith in
    rw (one, writes_last 63 (digit_value c) [] (value_below c p.0), glyph_again c p.0) refl
written (c ∷ (d ∷ cs)) h short =
    let p = and_parts (is_digit c) (list_all is_digit (d ∷ cs)) h.all in
    let v : ℕ = digit_value c in
    let one : 0 * 16 + v ≡ v = omega arith in
    let some : 1 ≤ v = value_some_digit c p.0 (λ z. absurd (omega (arith, h.front z))) in
    let k : ℕ = 62 - length cs in
    let fuel : 64 ≡ length (d ∷ cs) + suc k = omega arith in
    let start : digits_onto 64 16 false (digits_value_after 16 v (d ∷ cs)) [] ≡ digits_onto (suc k) 16 false v ((d ∷ cs) ++ []) =
    ap (λ (f : ℕ). digits_onto f 16 false (digits_value_after 16 v (d ∷ cs)) []) fuel ∙ goes_on (suc k) v (d ∷ cs) [] some p.1 in
    rw one (start ∙ writes_last k v ((d ∷ cs) ++ []) (value_below c p.0) ∙ rw (append-nil (d ∷ cs), glyph_again c p.0) refl)

all_digits : (w : List ℕ) → list_all is_digit w ≡ true → AllDigits 16 w
all_digits [] all = tt
all_digits (c ∷ cs) all = let p = and_parts (is_digit c) (list_all is_digit cs) all in (value_below c p.0, all_digits cs p.1)

pow_le : (i j : ℕ) → i ≤ j → 16 ^ i ≤ 16 ^ j
pow_le i j le = pow-le-pow_right (omega arith) le

pub hex_read : (w : List ℕ) → length w ≤ 32 → AreNumeral w → numeral_value 16 (2 ^ 128) w ≡ Some (digits_value 16 w)
hex_read w short h =
    let below : digits_value 16 w < 16 ^ length w = digits_value-lt 16 w (all_digits w h.all) in
    let small : digits_value 16 w < 2 ^ 128 = omega (arith, below, pow_le (length w) 32 short) in
    value_some 16 (2 ^ 128) (digits_value 16 w) w base16 small (written w h (omega arith))

-- ---- what a number is written as

record IsWritten (m n : ℕ) (acc ds : List ℕ) : Type 0 where
  all : list_all is_digit ds ≡ true
  short : length ds ≤ suc m + length acc
  some : 0 < length ds
  front : 0 < n → get_or ds 0 0 ≢ 48

one_digit : (k m n : ℕ) (acc : List ℕ) → n < 16 → list_all is_digit acc ≡ true → IsWritten m n acc (digits_onto (suc k) 16 false n acc)
one_digit k m n acc lt all =
    rw (writes_last k n acc lt) (record { all = rw (glyph_digit n lt) all; short = omega arith; some = omega arith; front = glyph_front n lt })

is_written : (k m n : ℕ) (acc : List ℕ) → n < 16 ^ suc m → m ≤ k → list_all is_digit acc ≡ true → IsWritten m n acc (digits_onto (suc k) 16 false n acc)
is_written k zero n acc lt le all = one_digit k zero n acc (omega arith) all
is_written zero (suc m) n acc lt le all = absurd (omega arith)
is_written (suc k) (suc m) n acc lt le all =
    elim (cases_lt n 16) [
      | inl small ↦ one_digit (suc k) (suc m) n acc small all
      | inr big ↦
          let g : ℕ = digit_glyph false (n % 16) in
          let less : n / 16 < 16 ^ suc m = omega (arith, pow-add 16 (suc m) 1) in
          let w = is_written k m (n / 16) (g ∷ acc) less (omega arith) (rw (glyph_digit (n % 16) (omega arith)) all) in
          rw (writes_digit (suc k) n acc big) (record { all = w.all; short = omega (arith, w.short); some = w.some; front = λ some. w.front (omega arith) })
    ]

numeral_of : (n : ℕ) → n < 2 ^ 128 → AreNumeral (digits 16 false n) × (length (digits 16 false n) ≤ 32)
unfolding digits
numeral_of zero lt = (record { some = omega arith; front = λ z. refl; all = refl }, omega arith)
numeral_of (suc n) lt =
    let w = is_written 63 31 (suc n) [] (omega arith) (omega arith) refl in
    (record { some = w.some; front = λ z. absurd (w.front (omega arith) z); all = w.all }, w.short)

pub hex_other : (w : List ℕ) → (length w ≤ 32 → AreNumeral w → ⊥) → numeral_value 16 (2 ^ 128) w ≡ None
hex_other w h =
    value_none 16 (2 ^ 128) w (λ n lt e.
    let d = numeral_of n lt in
    h (omega (arith, d.1, ap (λ (v : List ℕ). length v) e)) (subst AreNumeral e d.0))

-- ---- a digit more

pub record IsBelow (i n : ℕ) : Type 0 where
  pub next : n < 16 ^ (i + 1)
  pub fits : n < 2 ^ 128

pub still_below : (i n v : ℕ) → i < 32 → n < 16 ^ i → v < 16 → IsBelow i (n * 16 + v)
still_below i n v lt below small =
    let more : 16 ^ (i + 1) ≡ 16 ^ i * 16 = pow-add 16 i 1 in
    let next : n * 16 + v < 16 ^ (i + 1) = omega (arith, more) in
    record { next = next; fits = omega (arith, next, pow_le (i + 1) 32 (omega arith)) }
