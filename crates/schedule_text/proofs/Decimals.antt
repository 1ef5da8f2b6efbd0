-- A numeral of decimal digits is what its number is written as, and no other text is.
use Rattle.std.proofs.Common.{◌≡◌, ℕ, zero, suc, ◌+◌, ◌-◌, ◌*◌, ◌^◌, ◌<◌, ◌≤◌, true, List, [], ◌∷◌, length, get_or, Some, None, refl, ap, subst, arith, rules}
use Rattle.std.specs.Prelude.{decimal}
use Rattle.std.specs.Char.{digit_value, is_ascii_digit}
use Rattle.std.specs.Fmt.{digits}
use Rattle.std.specs.List.{list_all}
use Rattle.std.specs.Str.Parse.{digits_value}
use Rattle.std.proofs.lemmas.Bool.{and_parts}
use Rattle.std.proofs.lemmas.Bool.Decides.{nat_tests}
use Rattle.std.proofs.lemmas.Fmt.{decimal-digits_value, decimal_nonempty, digits_decimal, first_decimal, length-decimal-le}
use Rattle.std.proofs.lemmas.Nat.{pow-add}
use Rattle.std.proofs.lemmas.Str.Parse.{IsNumeralModel, numerals_by_value}
use Rattle.std.proofs.Math.Nat.{pow-le-pow_right}
use Rattle.schedule_text.specs.Reading.{AreDecimal, numeral_value}
use Rattle.schedule_text.proofs.Numerals.{base10, digits_are, value_some, value_none}

abbrev AreAll : List ℕ → Type 0
AreAll ds = list_all is_ascii_digit ds ≡ true

own : IsNumeralModel AreAll (digits_value 10)
own = numerals_by_value AreAll (search rules)

pub decimal_read : (limit : ℕ) (w : List ℕ) → limit ≤ 2 ^ 64 → AreDecimal w → digits_value 10 w < limit → numeral_value 10 limit w ≡ Some (digits_value 10 w)
decimal_read limit w le h lt =
    value_some 10 limit (digits_value 10 w) w (base10 limit le) lt (decimal-digits_value own w h.all h.some h.front (omega arith))

-- the number is too great
pub decimal_great : (limit : ℕ) (w : List ℕ) → limit ≤ 2 ^ 64 → limit ≤ digits_value 10 w → numeral_value 10 limit w ≡ None
decimal_great limit w le great =
    value_none 10 limit w (λ n lt e. let d = digits_are 10 limit n w (base10 limit le) lt e in omega (arith, d.1))

one_zero : length (decimal 0) ≡ 1
unfolding digits
one_zero = refl

decimal_of : (n : ℕ) → n < 2 ^ 64 → AreDecimal (decimal n)
decimal_of zero lt = record { some = omega (arith, one_zero); front = λ z. one_zero; all = digits_decimal own zero lt }
decimal_of (suc n) lt = record { some = decimal_nonempty (suc n) lt; front = λ z. absurd (omega (arith, z, first_decimal (suc n) (omega arith) lt)); all = digits_decimal own (suc n) lt }

pub decimal_other : (limit : ℕ) (w : List ℕ) → limit ≤ 2 ^ 64 → (length w ≤ 20 → AreDecimal w → ⊥) → numeral_value 10 limit w ≡ None
decimal_other limit w le h =
    value_none 10 limit w (λ n lt e.
    let short : length (decimal n) ≤ 20 = length-decimal-le 20 n (omega arith) (omega arith) (omega arith) in
    h (omega (arith, short, ap (λ (v : List ℕ). length v) e)) (subst AreDecimal e (decimal_of n (omega arith))))

-- ---- a digit more

pub record IsBelow (i n : ℕ) : Type 0 where
  pub next : n < 10 ^ (i + 1)
  pub fits : n < 2 ^ 128

pow_le : (i j : ℕ) → i ≤ j → 10 ^ i ≤ 10 ^ j
pow_le i j le = pow-le-pow_right (omega arith) le

pub still_below : (i n v : ℕ) → i < 20 → n < 10 ^ i → v < 10 → IsBelow i (n * 10 + v)
still_below i n v lt below small =
    let more : 10 ^ (i + 1) ≡ 10 ^ i * 10 = pow-add 10 i 1 in
    let next : n * 10 + v < 10 ^ (i + 1) = omega (arith, more) in
    record { next = next; fits = omega (arith, next, pow_le (i + 1) 20 (omega arith)) }

-- what a digit of them is
pub record IsDecimal (c : ℕ) : Type 0 where
  pub low : 48 ≤ c
  pub high : c < 58
  pub value : digit_value c ≡ c - 48

of_digit : (c : ℕ) → is_ascii_digit c ≡ true → IsDecimal c
of_digit c h = record { low = grind (arith, nat_tests); high = grind (arith, nat_tests); value = grind (arith, nat_tests) }

pub decimal_at : (ds : List ℕ) (i : ℕ) → list_all is_ascii_digit ds ≡ true → i < length ds → IsDecimal (get_or ds i 0)
decimal_at [] i h lt = absurd (omega arith)
decimal_at (d ∷ ds) zero h lt = of_digit d (and_parts (is_ascii_digit d) (list_all is_ascii_digit ds) h).0
decimal_at (d ∷ ds) (suc i) h lt = decimal_at ds i (and_parts (is_ascii_digit d) (list_all is_ascii_digit ds) h).1 (omega arith)
