-- Where the first space is.
use Rattle.std.proofs.Common.{◌≡◌, ℕ, ◌+◌, ◌-◌, ◌<◌, ◌≤◌, true, false, List, length, take, drop, get_or, ap, ◌∙◌, arith, refl, inl, inr}
use Rattle.std.specs.List.{list_any, position_or_len}
use Rattle.std.proofs.Math.Seq.{take-add}
use Rattle.std.proofs.lemmas.Bool.{cases_Bool}
use Rattle.std.proofs.lemmas.List.{get_or-take, length-take-le}
use Rattle.std.proofs.lemmas.List.Folds.{list_any-append, list_any_at}
use Rattle.std.proofs.lemmas.List.Sums.{position_or_len_is}
use Rattle.schedule_text.specs.Reading.{is_space}

-- a block more has none
pub none_more : (xs : List ℕ) (i n : ℕ) → list_any is_space (take i xs) ≡ false → list_any is_space (take (i + n - i) (drop i xs)) ≡ false → list_any is_space (take (i + n) xs) ≡ false
none_more xs i n before slice =
    let size : i + n - i ≡ n = omega arith in
    let here : list_any is_space (take n (drop i xs)) ≡ false = rw size at slice in
    rw (take-add i n xs, list_any-append, before, here) refl

none_at : (xs : List ℕ) (i k : ℕ) → i ≤ length xs → list_any is_space (take i xs) ≡ false → k < i → is_space (get_or xs k 0) ≡ false
none_at xs i k le none lt =
    elim (cases_Bool (is_space (get_or xs k 0))) [
      | inl space ↦
          let same : get_or (take i xs) k 0 ≡ get_or xs k 0 = get_or-take i xs k 0 lt in
          absurd (cc (none, list_any_at is_space (take i xs) k 0 (omega (arith, length-take-le i xs le)) (ap is_space same ∙ space)))
      | inr other ↦ other
    ]

pub first_is_at : (xs : List ℕ) (i : ℕ) → i ≤ length xs → list_any is_space (take i xs) ≡ false → (i < length xs → is_space (get_or xs i 0) ≡ true) → position_or_len is_space xs ≡ i
first_is_at xs i le none here = position_or_len_is is_space xs i 0 le (λ k lt. none_at xs i k le none lt) here
