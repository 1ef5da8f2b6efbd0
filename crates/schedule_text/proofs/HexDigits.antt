-- The digits of a number, written from its last.
use Rattle.std.proofs.Common.{◌≡◌, ℕ, zero, suc, ◌+◌, ◌-◌, ◌*◌, ◌/◌, ◌%◌, ◌^◌, ◌<◌, ◌≤◌, true, false, eqb, List, ◌∷◌, length, drop, set, refl, sym, ◌∙◌, arith}
use Rattle.std.specs.Fmt.{digits_onto, digit_glyph}
use Rattle.std.proofs.lemmas.Bool.{eq-eqb, ne_eqb}
use Rattle.std.proofs.lemmas.List.{drop-set}
use Rattle.std.proofs.lemmas.Nat.{pow-add}

-- one more digit is written
pub writes_digit : (k n : ℕ) (acc : List ℕ) → 16 ≤ n → digits_onto (suc k) 16 false n acc ≡ digits_onto k 16 false (n / 16) (digit_glyph false (n % 16) ∷ acc)
writes_digit k n acc le =
    let big : eqb (n / 16) 0 ≡ false = ne_eqb _ _ (omega arith) in
    rw big refl

pub writes_last : (k n : ℕ) (acc : List ℕ) → n < 16 → digits_onto (suc k) 16 false n acc ≡ digit_glyph false n ∷ acc
writes_last k n acc lt =
    let none : eqb (n / 16) 0 ≡ true = eq-eqb _ _ (omega arith) in
    let same : n % 16 ≡ n = omega arith in
    rw (none, same) refl

-- a number of two digits or more has two places
pub two_places : (s n : ℕ) → n < 16 ^ s → 16 ≤ n → 2 ≤ s
two_places zero n lt le = omega arith
two_places (suc zero) n lt le = omega arith
two_places (suc (suc s)) n lt le = omega arith

pub one_place_less : (s n : ℕ) → 1 ≤ s → n < 16 ^ s → n / 16 < 16 ^ (s - 1)
one_place_less s n low lt =
    let split : 16 ^ (s - 1 + 1) ≡ 16 ^ (s - 1) * 16 = pow-add 16 (s - 1) 1 in
    let same : s - 1 + 1 ≡ s = omega arith in
    let whole : 16 ^ s ≡ 16 ^ (s - 1) * 16 = rw same at split in
    omega (arith, whole)

-- what is written so far, and what the rest will write before it
pub writes_more : (s n g : ℕ) (buf total : List ℕ) → 1 ≤ s → s ≤ length buf → 16 ≤ n → g ≡ digit_glyph false (n % 16)
    → digits_onto (s + 32) 16 false n (drop s buf) ≡ total → digits_onto (s - 1 + 32) 16 false (n / 16) (drop (s - 1) (set buf (s - 1) g)) ≡ total
writes_more s n g buf total low high big is so_far =
    let front : drop (s - 1) (set buf (s - 1) g) ≡ g ∷ drop (s - 1 + 1) buf = drop-set buf (s - 1) g (omega arith) in
    let same : s - 1 + 1 ≡ s = omega arith in
    let fuel : s + 32 ≡ suc (s - 1 + 32) = omega arith in
    let step : digits_onto (s + 32) 16 false n (drop s buf) ≡ digits_onto (s - 1 + 32) 16 false (n / 16) (digit_glyph false (n % 16) ∷ drop s buf) = rw fuel (writes_digit (s - 1 + 32) n (drop s buf) big) in
    rw (front, same, is) (sym step ∙ so_far)

pub writes_all : (s n g : ℕ) (buf total : List ℕ) → 1 ≤ s → s ≤ length buf → n < 16 → g ≡ digit_glyph false n
    → digits_onto (s + 32) 16 false n (drop s buf) ≡ total → drop (s - 1) (set buf (s - 1) g) ≡ total
writes_all s n g buf total low high small is so_far =
    let front : drop (s - 1) (set buf (s - 1) g) ≡ g ∷ drop (s - 1 + 1) buf = drop-set buf (s - 1) g (omega arith) in
    let same : s - 1 + 1 ≡ s = omega arith in
    let fuel : s + 32 ≡ suc (s - 1 + 32) = omega arith in
    let step : digits_onto (s + 32) 16 false n (drop s buf) ≡ digit_glyph false n ∷ drop s buf = rw fuel (writes_last (s - 1 + 32) n (drop s buf) small) in
    rw (front, same, is) (sym step ∙ so_far)
