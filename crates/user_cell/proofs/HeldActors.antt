-- What sessions and savers hold, where one of them changes, goes or joins.
use Rattle.std.proofs.Common.{◌≡◌, ℕ, ◌+◌, ◌≤◌, Bool, true, false, cond, List, [], ◌∷◌, length, refl, ap, arith, Option, Some, None}
use Rattle.std.specs.Prelude.{sum_by, find}
use Rattle.std.proofs.lemmas.List.Sums.{sum_by-cons}
use Rattle.push_model.specs.declared.advance.Advance.{Advance}
use Rattle.push_model.specs.declared.advance.Advance.TheVariants.{Moved as Goes, End as Ends, Out, Absent}
use Rattle.push_model.specs.SessionKey.{SessionKey}
use Rattle.push_model.specs.Keyed.{with_first, without_first}
use Rattle.push_model.specs.Cells.{Saver, is_saver}
use Rattle.push_model.specs.SaverSteps.{saver_at, savers_moved}

-- ---- a sum over a list of which one element changes or goes

changed_by : {A : Type 0} (f : A → ℕ) (g : A → A) (b : Bool) (x z : A) (xs ys : List A) (o : Option A) → cond b (Some z) o ≡ Some x →
    (o ≡ Some x → sum_by f ys + f x ≡ sum_by f xs + f (g x)) →
    sum_by f (cond b (g z ∷ xs) (z ∷ ys)) + f x ≡ sum_by f (z ∷ xs) + f (g x)
changed_by f g true x z xs ys o found more =
    let same : z ≡ x = cc in
    rw same (omega (arith, sum_by-cons f (g x) xs, sum_by-cons f x xs))
changed_by f g false x z xs ys o found more = let e = more found in omega (arith, sum_by-cons f z ys, sum_by-cons f z xs)

pub sum_changed : {A : Type 0} (f : A → ℕ) (p : A → Bool) (g : A → A) (x : A) (xs : List A) → find p xs ≡ Some x →
    sum_by f (with_first p g xs) + f x ≡ sum_by f xs + f (g x)
sum_changed f p g x [] h = cc
sum_changed f p g x (z ∷ xs) h = changed_by f g (p z) x z xs (with_first p g xs) (find p xs) h (sum_changed f p g x xs)

gone_by : {A : Type 0} (f : A → ℕ) (b : Bool) (x z : A) (xs ys : List A) (o : Option A) → cond b (Some z) o ≡ Some x →
    (o ≡ Some x → sum_by f ys + f x ≡ sum_by f xs) → sum_by f (cond b xs (z ∷ ys)) + f x ≡ sum_by f (z ∷ xs)
gone_by f true x z xs ys o found more =
    let same : z ≡ x = cc in
    rw same (omega (arith, sum_by-cons f x xs))
gone_by f false x z xs ys o found more = let e = more found in omega (arith, sum_by-cons f z ys, sum_by-cons f z xs)

pub sum_gone : {A : Type 0} (f : A → ℕ) (p : A → Bool) (x : A) (xs : List A) → find p xs ≡ Some x → sum_by f (without_first p xs) + f x ≡ sum_by f xs
sum_gone f p x [] h = cc
sum_gone f p x (z ∷ xs) h = gone_by f (p z) x z xs (without_first p xs) (find p xs) h (sum_gone f p x xs)

shorter_by : {A : Type 0} (b : Bool) (x z : A) (xs ys : List A) (o : Option A) → cond b (Some z) o ≡ Some x →
    (o ≡ Some x → length ys + 1 ≡ length xs) → length (cond b xs (z ∷ ys)) + 1 ≡ length (z ∷ xs)
shorter_by true x z xs ys o found more = omega arith
shorter_by false x z xs ys o found more = let e = more found in omega arith

pub length_gone : {A : Type 0} (p : A → Bool) (x : A) (xs : List A) → find p xs ≡ Some x → length (without_first p xs) + 1 ≡ length xs
length_gone p x [] h = cc
length_gone p x (z ∷ xs) h = shorter_by (p z) x z xs (without_first p xs) (find p xs) h (length_gone p x xs)

same_sum_by : {A : Type 0} (f : A → ℕ) (g : A → A) (b : Bool) (z : A) (xs ys : List A) → f (g z) ≡ f z → sum_by f ys ≡ sum_by f xs →
    sum_by f (cond b (g z ∷ xs) (z ∷ ys)) ≡ sum_by f (z ∷ xs)
same_sum_by f g true z xs ys e h = omega (arith, sum_by-cons f (g z) xs, sum_by-cons f z xs)
same_sum_by f g false z xs ys e h = omega (arith, sum_by-cons f z ys, sum_by-cons f z xs)

-- the change leaves the term as it is
pub sum_kept : {A : Type 0} (f : A → ℕ) (p : A → Bool) (g : A → A) (xs : List A) → ((x : A) → f (g x) ≡ f x) →
    sum_by f (with_first p g xs) ≡ sum_by f xs
sum_kept f p g [] h = refl
sum_kept f p g (z ∷ xs) h = same_sum_by f g (p z) z xs (with_first p g xs) (h z) (sum_kept f p g xs h)

less_by : {A : Type 0} (f : A → ℕ) (b : Bool) (z : A) (xs ys : List A) → sum_by f ys ≤ sum_by f xs → sum_by f (cond b xs (z ∷ ys)) ≤ sum_by f (z ∷ xs)
less_by f true z xs ys h = omega (arith, sum_by-cons f z xs)
less_by f false z xs ys h = omega (arith, sum_by-cons f z ys, sum_by-cons f z xs)

pub sum_less : {A : Type 0} (f : A → ℕ) (p : A → Bool) (xs : List A) → sum_by f (without_first p xs) ≤ sum_by f xs
sum_less f p [] = omega arith
sum_less f p (z ∷ xs) = less_by f (p z) z xs (without_first p xs) (sum_less f p xs)

-- ---- what savers hold

-- a saver that moves on holds what it held, or is no more
pub held_moved : (a : Advance) (s : SessionKey) (vs : List Saver) → sum_by (λ v. length v.held) (savers_moved a s vs) ≤ sum_by (λ v. length v.held) vs
held_moved (Goes stage) s vs = omega (arith, sum_kept (λ v. length v.held) (is_saver s) (saver_at stage) vs (λ v. refl))
held_moved (Ends code) s vs = sum_less (λ v. length v.held) (is_saver s) vs
held_moved (Out stage) s vs = omega arith
held_moved Absent s vs = omega arith

-- ---- where none is found

none_by : {A : Type 0} (b : Bool) (z : A) (o : Option A) → cond b (Some z) o ≡ None → (b ≡ false) × (o ≡ None)
none_by true z o e = cc
none_by false z o e = (refl, e)

pub none_gone : {A : Type 0} (p : A → Bool) (xs : List A) → find p xs ≡ None → without_first p xs ≡ xs
none_gone p [] e = refl
none_gone p (z ∷ xs) e = let h = none_by (p z) z (find p xs) e in rw h.0 (ap (λ ys. z ∷ ys) (none_gone p xs h.1))

pub none_changed : {A : Type 0} (p : A → Bool) (g : A → A) (xs : List A) → find p xs ≡ None → with_first p g xs ≡ xs
none_changed p g [] e = refl
none_changed p g (z ∷ xs) e = let h = none_by (p z) z (find p xs) e in rw h.0 (ap (λ ys. z ∷ ys) (none_changed p g xs h.1))
