-- Lower-case hexadecimal digits, and the bytes that two of them spell.
use Rattle.std.proofs.Common.{◌≡◌, ℕ, zero, suc, ◌+◌, ◌*◌, ◌/◌, ◌%◌, ◌<◌, ◌≤◌, Bool, true, false, ◌&&◌, List, [], ◌∷◌, ◌++◌, length, take, drop, slice_index, slice_set, refl, sym, ap, subst, ◌∙◌, arith, inl, inr}
use Rattle.std.specs.Prelude.{◌==◌, ◌||◌, not, nat_lt}
use Rattle.std.specs.List.{list_all}
use Rattle.std.proofs.lemmas.Bool.{and_parts, cases_lt, eqb-true, ltb-true}
use Rattle.std.proofs.lemmas.Bool.Decides.{nat_tests}
use Rattle.std.proofs.lemmas.List.{append_assoc, append-nil, drop_all, take_all, take_more_set}
use Rattle.std.proofs.Math.ListN.{get_or-eq_default}
use Rattle.hex.specs.Hex.{IsBytes, decode_of, encode_lower, encode_with, lower_digits}
use Rattle.hex.proofs.HexLemmas.{decode_of-encode_lower, length-encode_with}
use Rattle.hex.proofs.Pairs.{drop-pair}
use Rattle.schedule_text.specs.Reading.{is_digit, decoded}

-- ---- one digit, by a test of each place of the table

abbrev value_of : ℕ → ℕ
value_of c = c % 16 + 9 * (c / 64)

abbrev reads : ℕ → Bool
reads c = not (is_digit c) || (nat_lt (value_of c) 16 && (slice_index lower_digits (value_of c) == c))

abbrev writes : ℕ → Bool
writes d = is_digit (slice_index lower_digits d)

-- the test of each number below n
abbrev pub all_below : (ℕ → Bool) → ℕ → Bool
all_below p zero = true
all_below p (suc n) = p n && all_below p n

pub tested : (p : ℕ → Bool) (n k : ℕ) → all_below p n ≡ true → k < n → p k ≡ true
tested p zero k h lt = absurd (omega arith)
tested p (suc n) k h lt =
    let parts = and_parts (p n) (all_below p n) h in
    elim (cases_lt k n) [
      | inl below ↦ tested p n k parts.1 below
      | inr top ↦
          let e : k ≡ n = omega arith in
          rw e parts.0
    ]

passed : (b c : Bool) → b ≡ true → (not b || c) ≡ true → c ≡ true
passed true c is h = h
passed false c is h = absurd cc

digit_below : (c : ℕ) → is_digit c ≡ true → c < 103
digit_below c h = grind (arith, nat_tests)

-- each digit is in the table
digit_place : (c : ℕ) → is_digit c ≡ true → (v : ℕ) × (v < 16) × (slice_index lower_digits v ≡ c)
digit_place c h =
    let v : ℕ = value_of c in
    let p = and_parts (nat_lt v 16) (slice_index lower_digits v == c) (passed (is_digit c) _ h (tested reads 103 c refl (digit_below c h))) in
    (v, ltb-true v 16 p.0, eqb-true (slice_index lower_digits v) c p.1)

digit_written : (d : ℕ) → d < 16 → is_digit (slice_index lower_digits d) ≡ true
digit_written d lt = tested writes 16 d refl lt

-- ---- bytes, from the first on

pub encode-append : (t xs ys : List ℕ) → encode_with t (xs ++ ys) ≡ encode_with t xs ++ encode_with t ys
unfolding encode_with
encode-append t [] ys = refl
encode-append t (b ∷ xs) ys = ap (λ (v : List ℕ). slice_index t (b / 16) ∷ slice_index t (b % 16) ∷ v) (encode-append t xs ys)

encode-one : (b : ℕ) → encode_lower (b ∷ []) ≡ slice_index lower_digits (b / 16) ∷ slice_index lower_digits (b % 16) ∷ []
unfolding encode_with
encode-one b = refl

-- one byte more is decoded
pub decode_step : (digits bytes : List ℕ) (i h l v : ℕ) → 2 * i + 1 < length digits → i < length bytes → v ≡ h * 16 + l → l < 16
    → slice_index lower_digits h ≡ slice_index digits (2 * i) → slice_index lower_digits l ≡ slice_index digits (2 * i + 1)
    → encode_lower (take i bytes) ++ drop (2 * i) digits ≡ digits → encode_lower (take (i + 1) (slice_set bytes i v)) ++ drop (2 * (i + 1)) digits ≡ digits
decode_step digits bytes i h l v fits room is below high low so_far =
    let first : v / 16 ≡ h = omega arith in
    let second : v % 16 ≡ l = omega arith in
    let one : encode_lower (v ∷ []) ≡ slice_index digits (2 * i) ∷ slice_index digits (2 * i + 1) ∷ [] =
    rw (encode-one v, first, second, high, low) refl in
    let pair = drop-pair digits i fits in
    rw (take_more_set bytes i v room, encode-append lower_digits (take i bytes) (v ∷ []), one, append_assoc) (rw pair at so_far)

-- every byte is decoded
pub decode_done : (digits bytes : List ℕ) (i : ℕ) → length bytes ≤ i → length digits ≡ 2 * length bytes → encode_lower (take i bytes) ++ drop (2 * i) digits ≡ digits
    → encode_lower bytes ≡ digits
decode_done digits bytes i all len so_far =
    let d = drop_all (2 * i) digits (omega arith) in
    let a = take_all i bytes all in
    rw (d, a, append-nil) at so_far

-- nothing is decoded yet
pub decode_start : (digits : List ℕ) → encode_lower [] ++ digits ≡ digits
unfolding encode_with
decode_start digits = refl

-- ---- texts of digits

-- the digits of bytes are digits
pub encoded_digits : (bytes : List ℕ) → IsBytes bytes → list_all is_digit (encode_lower bytes) ≡ true
unfolding encode_with
encoded_digits [] h = refl
encoded_digits (b ∷ bytes) h =
    let fits : b < 256 = h 0 in
    rw (digit_written (b / 16) (omega arith), digit_written (b % 16) (omega arith)) (encoded_digits bytes (λ i. h (suc i)))

more_bytes : (b : ℕ) (bytes : List ℕ) → b < 256 → IsBytes bytes → IsBytes (b ∷ bytes)
more_bytes b bytes lt h zero = lt
more_bytes b bytes lt h (suc i) = h i

no_bytes : IsBytes []
no_bytes i = omega arith

-- digits, two a byte, spell some bytes
spelled : (w : List ℕ) → list_all is_digit w ≡ true → length w % 2 ≡ 0 → (bytes : List ℕ) × IsBytes bytes × (encode_lower bytes ≡ w)
unfolding encode_with
spelled [] all even = ([], no_bytes, refl)
spelled (d ∷ []) all even = absurd (omega arith)
spelled (d ∷ (e ∷ rest)) all even =
    let a = and_parts (is_digit d) (list_all is_digit (e ∷ rest)) all in
    let b = and_parts (is_digit e) (list_all is_digit rest) a.1 in
    let h = digit_place d a.0 in
    let l = digit_place e b.0 in
    let r = spelled rest b.1 (omega arith) in
    let first : (h.0 * 16 + l.0) / 16 ≡ h.0 = omega (arith, l.1) in
    let second : (h.0 * 16 + l.0) % 16 ≡ l.0 = omega (arith, l.1) in
    ((h.0 * 16 + l.0) ∷ r.0, more_bytes (h.0 * 16 + l.0) r.0 (omega (arith, h.1, l.1)) r.1, rw (first, second, h.2, l.2, r.2) refl)

spells : (w bytes : List ℕ) → IsBytes bytes → encode_lower bytes ≡ w → decoded w ≡ bytes
spells w bytes h e = rw (sym (ap decode_of e) ∙ decode_of-encode_lower bytes h) refl

no_digit : (n : ℕ) → is_digit (slice_index lower_digits n) ≡ true → n < 16
no_digit n h =
    elim (cases_lt n 16) [
      | inl below ↦ below
      | inr above ↦
          let none : slice_index lower_digits n ≡ 0 = get_or-eq_default lower_digits 0 above in
          absurd (cc (ap is_digit none, h))
    ]

-- what digits spell are bytes
pub spelled_bytes : (bytes : List ℕ) → list_all is_digit (encode_lower bytes) ≡ true → IsBytes bytes
unfolding encode_with
spelled_bytes [] h = no_bytes
spelled_bytes (b ∷ bytes) h =
    let p = and_parts (is_digit (slice_index lower_digits (b / 16))) (is_digit (slice_index lower_digits (b % 16)) && list_all is_digit (encode_lower bytes)) h in
    let q = and_parts (is_digit (slice_index lower_digits (b % 16))) (list_all is_digit (encode_lower bytes)) p.1 in
    let below : b / 16 < 16 = no_digit (b / 16) p.0 in
    more_bytes b bytes (omega arith) (spelled_bytes bytes q.1)

-- what digits that spell these bytes are decoded to
pub decoded_is : (w bytes : List ℕ) → list_all is_digit w ≡ true → encode_lower bytes ≡ w → decoded w ≡ bytes
decoded_is w bytes all e = spells w bytes (spelled_bytes bytes (ap (list_all is_digit) e ∙ all)) e

pub record IsDecoded (w : List ℕ) : Type 0 where
  pub bytes : IsBytes (decoded w)
  pub again : encode_lower (decoded w) ≡ w

pub decodes : (w : List ℕ) → list_all is_digit w ≡ true → length w % 2 ≡ 0 → IsDecoded w
decodes w all even =
    let s = spelled w all even in
    let is = spells w s.0 s.1 s.2 in
    record { bytes = subst IsBytes (sym is) s.1; again = ap encode_lower is ∙ s.2 }

pub length-decoded : (w : List ℕ) → list_all is_digit w ≡ true → length w % 2 ≡ 0 → 2 * length (decoded w) ≡ length w
length-decoded w all even = sym (length-encode_with lower_digits (decoded w)) ∙ ap (λ (v : List ℕ). length v) (decodes w all even).again

pub decoded-nil : decoded [] ≡ []
unfolding encode_with
decoded-nil = decoded_is [] [] refl refl
