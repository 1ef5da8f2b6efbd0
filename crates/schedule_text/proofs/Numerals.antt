-- A number is read from its digits, and from no other text.
use Rattle.std.proofs.lemmas.Bool.{ltb-true}
use Rattle.std.proofs.Common.{◌≡◌, ℕ, zero, suc, ◌^◌, ◌<◌, ◌≤◌, Bool, true, false, cond, ltb, ◌&&◌, List, [], ◌∷◌, Some, None, refl, sym, ap, subst, ◌∙◌, arith}
use Rattle.std.specs.Fmt.{digits}
use Rattle.std.specs.Str.{bytes_eq, IsAscii, IsUtf8}
use Rattle.std.specs.Char.{digit_value}
use Rattle.std.specs.Str.Parse.{digits_value, IsNumeral, AllDigits}
use Rattle.std.proofs.lemmas.Bool.{lt-ltb}
use Rattle.std.proofs.lemmas.Bool.Decides.{nat_tests}
use Rattle.std.proofs.lemmas.Fmt.{digits_is_IsNumeral}
use Rattle.std.proofs.lemmas.Slice.Eq.{bytes_eq-Decides}
use Rattle.std.proofs.lemmas.Str.{IsUtf8-from_ascii}
use Rattle.schedule_text.specs.Reading.{numeral_value}

-- a base whose digits are known, and what it can write
pub record IsBase (base limit : ℕ) : Type 0 where
  pub low : 2 ≤ base
  pub high : base ≤ 16
  pub room : limit ≤ base ^ 64

pub base10 : (limit : ℕ) → limit ≤ 2 ^ 64 → IsBase 10 limit
base10 limit h = record { low = omega arith; high = omega arith; room = omega arith }

pub base16 : IsBase 16 (2 ^ 128)
base16 = record { low = omega arith; high = omega arith; room = omega arith }

-- what the digits of a number are
pub digits_are : (base limit n : ℕ) (w : List ℕ) → IsBase base limit → n < limit → digits base false n ≡ w → IsNumeral base w × (digits_value base w ≡ n)
digits_are base limit n w b lt e =
    subst (λ (v : List ℕ). IsNumeral base v × (digits_value base v ≡ n)) e (digits_is_IsNumeral base false b.low b.high n (omega (arith, b.room)))

digit_is_ascii : (c : ℕ) → digit_value c < 16 → c < 128
digit_is_ascii c h = grind (arith, nat_tests)

digits_are_ascii : (base : ℕ) (w : List ℕ) → base ≤ 16 → AllDigits base w → IsAscii w
digits_are_ascii base [] le h i = omega arith
digits_are_ascii base (c ∷ cs) le h zero = digit_is_ascii c (omega (arith, h.0))
digits_are_ascii base (c ∷ cs) le h (suc i) = digits_are_ascii base cs le h.1 i

pub digits_are_utf8 : (base limit n : ℕ) (w : List ℕ) → IsBase base limit → n < limit → digits base false n ≡ w → IsUtf8 w
digits_are_utf8 base limit n w b lt e = IsUtf8-from_ascii w (digits_are_ascii base w b.high (digits_are base limit n w b lt e).0.1)

-- the two answers
pub value_some : (base limit n : ℕ) (w : List ℕ) → IsBase base limit → n < limit → digits base false n ≡ w → numeral_value base limit w ≡ Some n
unfolding numeral_value
value_some base limit n w b lt e =
    let d = digits_are base limit n w b lt e in
    let fits : ltb (digits_value base w) limit ≡ true = lt-ltb _ _ (omega (arith, d.1)) in
    let same : bytes_eq (digits base false (digits_value base w)) w ≡ true = (bytes_eq-Decides _ _).1 (ap (digits base false) d.1 ∙ e) in
    rw (fits, same) (ap Some d.1)

test : (b c : Bool) (n : ℕ) → (b ≡ true → c ≡ true → ⊥) → cond (b && c) (Some n) None ≡ None
test true true n h = absurd (h refl refl)
test true false n h = refl
test false c n h = refl

pub value_none : (base limit : ℕ) (w : List ℕ) → ((n : ℕ) → n < limit → digits base false n ≡ w → ⊥) → numeral_value base limit w ≡ None
unfolding numeral_value
value_none base limit w h =
    test (ltb (digits_value base w) limit) (bytes_eq (digits base false (digits_value base w)) w) (digits_value base w)
    (λ p q. h (digits_value base w) (ltb-true _ _ p) ((bytes_eq-Decides _ _).0 q))

-- what was read is written so
tested : (b c : Bool) (m n : ℕ) → cond (b && c) (Some m) None ≡ Some n → (b ≡ true) × (c ≡ true) × (m ≡ n)
tested true true m n e = (refl, refl, cc)
tested true false m n e = absurd cc
tested false c m n e = absurd cc

pub value_takes : (base limit : ℕ) (w : List ℕ) (n : ℕ) → numeral_value base limit w ≡ Some n → (n < limit) × (w ≡ digits base false n)
unfolding numeral_value
value_takes base limit w n e =
    let t = tested (ltb (digits_value base w) limit) (bytes_eq (digits base false (digits_value base w)) w) (digits_value base w) n e in
    let same : digits base false (digits_value base w) ≡ w = (bytes_eq-Decides _ _).0 t.1 in
    (omega (arith, ltb-true _ _ t.0, t.2), sym same ∙ ap (digits base false) t.2)
