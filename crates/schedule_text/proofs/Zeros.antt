-- Digits without the zeros in front.
use Rattle.std.proofs.Common.{◌≡◌, ◌≢◌, ℕ, zero, suc, ◌+◌, ◌-◌, ◌<◌, ◌≤◌, Bool, true, false, cond, eqb, List, [], ◌∷◌, ◌++◌, length, take, drop, get_or, replicate, refl, sym, ap, arith, add-one, drop-cons, length-drop, length-append, ◌∙◌}
use Rattle.std.specs.List.{list_all}
use Rattle.std.proofs.lemmas.Bool.{ne_eqb, eqb-true, eq-eqb, and_parts}
use Rattle.std.proofs.lemmas.List.Folds.{list_all-append}
use Rattle.std.proofs.lemmas.List.{append-nil, take-replicate}
use borrow.Rule.Slice.PartMut.{put_mid, post_of, Post-is}
use Rattle.schedule_text.specs.Reading.{is_digit, AreNumeral}
use Rattle.schedule_text.specs.Words.{trimmed}

-- what has at most one digit, or another digit than 0 in front, stays
pub trimmed_short : (ds : List ℕ) → length ds ≤ 1 → trimmed ds ≡ ds
unfolding trimmed
trimmed_short [] h = refl
trimmed_short (d ∷ []) h = refl
trimmed_short (d ∷ (e ∷ rest)) h = absurd (omega arith)

trimmed_cons : (d : ℕ) (ds : List ℕ) → d ≢ 48 → trimmed (d ∷ ds) ≡ d ∷ ds
unfolding trimmed
trimmed_cons d [] h = refl
trimmed_cons d (e ∷ rest) h = rw (ne_eqb d 48 h) refl

trimmed_zero : (ds : List ℕ) → 1 ≤ length ds → trimmed (48 ∷ ds) ≡ trimmed ds
unfolding trimmed
trimmed_zero [] h = absurd (omega arith)
trimmed_zero (e ∷ rest) h = refl

-- ---- at a place of the digits

pub trimmed_there : (ds : List ℕ) (i : ℕ) → i < length ds → get_or ds i 0 ≢ 48 → trimmed (drop i ds) ≡ drop i ds
trimmed_there ds i lt other = rw (drop-cons ds i 0 lt) (trimmed_cons (get_or ds i 0) (drop (suc i) ds) other)

pub trimmed_behind : (ds : List ℕ) (i : ℕ) → i + 1 < length ds → get_or ds i 0 ≡ 48 → trimmed (drop (i + 1) ds) ≡ trimmed (drop i ds)
trimmed_behind ds i lt is =
    let front : drop i ds ≡ 48 ∷ drop (suc i) ds = rw is at (drop-cons ds i 0 (omega arith)) in
    let some : 1 ≤ length (drop (suc i) ds) = omega (arith, length-drop (suc i) ds) in
    rw (front, add-one) (sym (trimmed_zero (drop (suc i) ds) some))

-- ---- the zeros come back

shorter : (b : Bool) (d : ℕ) (ds : List ℕ) → length (trimmed ds) ≤ length ds → length (cond b (trimmed ds) (d ∷ ds)) ≤ suc (length ds)
shorter true d ds h = omega arith
shorter false d ds h = omega arith

pub length-trimmed : (ds : List ℕ) → length (trimmed ds) ≤ length ds
unfolding trimmed
length-trimmed [] = omega arith
length-trimmed (d ∷ []) = omega arith
length-trimmed (d ∷ (e ∷ rest)) = shorter (eqb d 48) d (e ∷ rest) (length-trimmed (e ∷ rest))

abbrev Comes : List ℕ → List ℕ → Type 0
Comes kept ds = replicate (length ds - length kept) 48 ++ kept ≡ ds

one_more : (kept ds : List ℕ) → length kept ≤ length ds → Comes kept ds → Comes kept (48 ∷ ds)
one_more kept ds le h =
    let more : suc (length ds) - length kept ≡ suc (length ds - length kept) = omega arith in
    rw more (ap (λ (v : List ℕ). 48 ∷ v) h)

nothing_lost : (ds : List ℕ) → Comes ds ds
nothing_lost ds =
    let none : length ds - length ds ≡ 0 = omega arith in
    rw none refl

by_test : (b : Bool) (d : ℕ) (ds : List ℕ) → eqb d 48 ≡ b → Comes (trimmed ds) ds → Comes (cond b (trimmed ds) (d ∷ ds)) (d ∷ ds)
by_test true d ds is h = rw (eqb-true d 48 is) (one_more (trimmed ds) ds (length-trimmed ds) h)
by_test false d ds is h = nothing_lost (d ∷ ds)

pub zeros_come_back : (ds : List ℕ) → replicate (length ds - length (trimmed ds)) 48 ++ trimmed ds ≡ ds
unfolding trimmed
zeros_come_back [] = refl
zeros_come_back (d ∷ []) = refl
zeros_come_back (d ∷ (e ∷ rest)) = by_test (eqb d 48) d (e ∷ rest) refl (zeros_come_back (e ∷ rest))

-- what stands behind the zeros that are kept
pub zeros_before : (w : List ℕ) → length w ≤ 48 → put_mid (48 - length w) (48 - (48 - length w)) (replicate 48 48) w ≡ replicate (48 - length w) 48 ++ w
zeros_before w le =
    let zeros : List ℕ = replicate 48 48 in
    let front : take (48 - length w) zeros ≡ replicate (48 - length w) 48 = take-replicate (48 - length w) 48 48 (omega arith) in
    let back : post_of (48 - length w) (48 - (48 - length w)) zeros ≡ [] = Post-is (48 - length w) 48 zeros (omega arith) in
    rw (front, back) (ap (λ (v : List ℕ). replicate (48 - length w) 48 ++ v) (append-nil w))

-- ---- numerals

-- a numeral behind zeros is trimmed to itself
pub trimmed_numeral : (k : ℕ) (w : List ℕ) → AreNumeral w → trimmed (replicate k 48 ++ w) ≡ w
trimmed_numeral zero [] h = absurd (omega (arith, h.some))
trimmed_numeral zero (d ∷ []) h = trimmed_short (d ∷ []) (omega arith)
trimmed_numeral zero (d ∷ (e ∷ rest)) h = trimmed_cons d (e ∷ rest) (λ z. absurd (omega (arith, h.front z)))
trimmed_numeral (suc k) w h =
    let some : 1 ≤ length (replicate k 48 ++ w) = omega (arith, length-append (replicate k 48) w, h.some) in
    trimmed_zero (replicate k 48 ++ w) some ∙ trimmed_numeral k w h

kept_numeral : (b : Bool) (d e : ℕ) (rest : List ℕ) → eqb d 48 ≡ b → list_all is_digit (d ∷ (e ∷ rest)) ≡ true → AreNumeral (trimmed (e ∷ rest)) → AreNumeral (cond b (trimmed (e ∷ rest)) (d ∷ (e ∷ rest)))
kept_numeral true d e rest is all h = h
kept_numeral false d e rest is all h = record { some = omega arith; front = λ z. absurd (cc (is, eq-eqb d 48 z)); all = all }

-- what is trimmed is a numeral
pub numeral_trimmed : (ds : List ℕ) → 0 < length ds → list_all is_digit ds ≡ true → AreNumeral (trimmed ds)
unfolding trimmed
numeral_trimmed [] some all = absurd (omega arith)
numeral_trimmed (d ∷ []) some all = record { some = omega arith; front = λ z. refl; all = all }
numeral_trimmed (d ∷ (e ∷ rest)) some all =
    kept_numeral (eqb d 48) d e rest refl all (numeral_trimmed (e ∷ rest) (omega arith) (and_parts (is_digit d) (list_all is_digit (e ∷ rest)) all).1)

all_zeros : (n : ℕ) → list_all is_digit (replicate n 48) ≡ true
all_zeros zero = refl
all_zeros (suc n) = all_zeros n

-- zeros in front are digits too
pub padded_digits : (n : ℕ) (w : List ℕ) → list_all is_digit w ≡ true → list_all is_digit (replicate n 48 ++ w) ≡ true
padded_digits n w h = rw (list_all-append is_digit (replicate n 48) w, all_zeros n, h) refl
