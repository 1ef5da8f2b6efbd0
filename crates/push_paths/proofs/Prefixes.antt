-- The path of a target as text, and what stands behind its prefix.
use Rattle.std.proofs.Common.{◌≡◌, ℕ, ◌+◌, ◌≤◌, ◌<◌, ◌==◌, ◌∙◌, ap, sym, suc, Bool, true, false, List, [], ◌∷◌, length, take, get_or, refl, arith, codes}
use Rattle.std.specs.Prelude.{IsUtf8, ◌&&◌, nat_lt}
use Rattle.std.specs.List.{position_or_len}
use Rattle.std.proofs.lemmas.Bool.Decides.{nat_tests}
use Rattle.std.proofs.lemmas.List.Sums.{passes_at_first, position_or_len_is, prefix_len-le-length}
use Rattle.std.proofs.lemmas.List.{take_all}
use Rattle.std.proofs.lemmas.Grind.{common_steps}
use Rattle.std.proofs.lemmas.Str.{IsUtf8-take, IsCharBoundary-before_ascii, IsCharBoundary-end}
use Rattle.std.specs.Str.{IsCharBoundary}
use Rattle.push_paths.specs.Paths.{is_behind, is_part, path_of}

-- a path begins with its prefix, and is longer
pub longer : (prefix path : List ℕ) → is_behind prefix path ≡ true → length prefix < length path
longer [] [] h = absurd (cc h)
longer [] (b ∷ path) h = omega arith
longer (x ∷ prefix) [] h = absurd (cc h)
longer (x ∷ prefix) (b ∷ path) h = longer_by (x == b) prefix path (longer prefix path) h
  where
    longer_by : (v : Bool) (p q : List ℕ) → (is_behind p q ≡ true → length p < length q) → (v && is_behind p q) ≡ true → suc (length p) < suc (length q)
    longer_by true p q f k = let less = f k in omega (arith, less)
    longer_by false p q f k = absurd (cc k)

apart : (b : ℕ) → (b ≡ 63 → ⊥) → (b == 63) ≡ false
apart b h = grind (arith, nat_tests, h)

-- the first `?` ends the path
pub marked : (target : List ℕ) (i : ℕ) → i < length target → ((k : ℕ) → k < i → get_or target k 0 ≡ 63 → ⊥) → get_or target i 0 ≡ 63 → take i target ≡ path_of target
marked target i inside before there =
    let first : position_or_len (λ b. b == 63) target ≡ i =
    position_or_len_is (λ b. b == 63) target i 0 (omega (arith, inside)) (λ k h. apart (get_or target k 0) (before k h)) (λ h. rw there refl) in
    ap (λ (n : ℕ). take n target) (sym first)

-- where there is none, it is the whole target
pub unmarked : (target : List ℕ) → ((k : ℕ) → k < length target → get_or target k 0 ≡ 63 → ⊥) → target ≡ path_of target
unmarked target none =
    let first : position_or_len (λ b. b == 63) target ≡ length target =
    position_or_len_is (λ b. b == 63) target (length target) 0 (omega arith) (λ k h. apart (get_or target k 0) (none k h)) (λ h. absurd (omega (arith, h))) in
    sym (ap (λ (n : ℕ). take n target) first ∙ take_all (length target) target (omega arith))

-- where a target is text, so is its path
path_boundary : (target : List ℕ) (n : ℕ) → n ≡ position_or_len (λ b. b == 63) target → n ≤ length target → IsCharBoundary target n
path_boundary target n e inside = at_or_before (nat_lt n (length target)) refl
  where
    at_or_before : (v : Bool) → nat_lt n (length target) ≡ v → IsCharBoundary target n
    at_or_before true h =
        let before : n < length target = grind (arith, nat_tests, h) in
        let there : (get_or target n 0 == 63) ≡ true = rw e (passes_at_first (λ b. b == 63) target 0 (rw (← e) before)) in
        IsCharBoundary-before_ascii target n before (grind (arith, nat_tests, there))
    at_or_before false h =
        let end : n ≡ length target = grind (arith, nat_tests, h, inside) in
        rw end (IsCharBoundary-end target)

pub path_is_text : (target : List ℕ) → IsUtf8 target → IsUtf8 (path_of target)
path_is_text target h =
    IsUtf8-take target (position_or_len (λ b. b == 63) target) h (path_boundary target _ refl (prefix_len-le-length _ target))
