-- The users that a list names, as one cell more is looked at.
use Rattle.std.proofs.Common.{◌≡◌, ℕ, zero, suc, ◌<◌, ◌≤◌, Bool, true, false, List, [], ◌∷◌, ◌++◌, length, take, refl, ap, sym, ◌∙◌, append_assoc, arith}
use Rattle.std.specs.Prelude.{Option, Some, None, filter, flat_map, if◌then◌else◌}
use Rattle.std.proofs.lemmas.List.{append-nil}
use Rattle.push_model.specs.declared.ids.Uaid.{Uaid}
use Rattle.std.specs.Map.{values_of}
use Rattle.push_model.specs.Cells.{Cell, User}
use Rattle.push_model.specs.Worlds.{World}
use Rattle.push_model.specs.ShardSteps.{route_of, users_where}
use Rattle.shard_core.specs.Listing.{listed, first_listed}

abbrev Listed : Type 0
Listed = List (Uaid × Option ℕ × ℕ)

-- what one cell more adds
abbrev pub added : Bool → Cell → List (Uaid × Option ℕ × ℕ)
added b c = if b then route_of c.uaid c.user else []

more_by : (p : Cell → Bool) (b : Bool) (x : Cell) (xs ys : List Cell) (l : Listed) → flat_map (λ c. route_of c.uaid c.user) ys ≡ flat_map (λ c. route_of c.uaid c.user) xs ++ l →
    flat_map (λ c. route_of c.uaid c.user) (if b then x ∷ ys else ys) ≡ flat_map (λ c. route_of c.uaid c.user) (if b then x ∷ xs else xs) ++ l
more_by p true x xs ys l h = ap (λ (r : Listed). route_of x.uaid x.user ++ r) h ∙ sym (append_assoc (route_of x.uaid x.user) (flat_map (λ c. route_of c.uaid c.user) xs) l)
more_by p false x xs ys l h = h

last_by : (b : Bool) (c : Cell) → flat_map (λ d. route_of d.uaid d.user) (if b then c ∷ [] else []) ≡ added b c
last_by true c = append-nil (route_of c.uaid c.user)
last_by false c = refl

listed-push : (p : Cell → Bool) (xs : List Cell) (c : Cell) → listed p (xs ++ c ∷ []) ≡ listed p xs ++ added (p c) c
listed-push p [] c = last_by (p c) c
listed-push p (x ∷ xs) c = more_by p (p x) x (filter p xs) (filter p (xs ++ c ∷ [])) (added (p c) c) (listed-push p xs c)

take-full : {A : Type 0} (n : ℕ) (xs ys : List A) → n ≤ length (take n xs) → take n (xs ++ ys) ≡ take n xs
take-full zero xs ys h = refl
take-full (suc n) [] ys h = absurd (omega arith)
take-full (suc n) (x ∷ xs) ys h = ap (λ l. x ∷ l) (take-full n xs ys (omega arith))

take-one : {A : Type 0} (n : ℕ) (ys : List A) → length ys ≤ suc n → take (suc n) ys ≡ ys
take-one n [] h = refl
take-one zero (y ∷ []) h = refl
take-one zero (y ∷ z ∷ ys) h = absurd (omega arith)
take-one (suc n) (y ∷ ys) h = ap (λ l. y ∷ l) (take-one n ys (omega arith))

take-more : {A : Type 0} (n : ℕ) (xs ys : List A) → length (take n xs) < n → length ys ≤ 1 → take n (xs ++ ys) ≡ take n xs ++ ys
take-more zero xs ys h k = absurd (omega arith)
take-more (suc n) [] ys h k = take-one n ys (omega arith)
take-more (suc n) (x ∷ xs) ys h k = ap (λ l. x ∷ l) (take-more n xs ys (omega arith) k)

one_route : (u : Uaid) (o : Option User) → length (route_of u o) ≤ 1
one_route u (Some x) = omega arith
one_route u None = omega arith

-- a user of that kind, while fewer than 100 are listed
pub first_listed-more : (p : Cell → Bool) (xs : List Cell) (c : Cell) → length (first_listed p xs) < 100 → p c ≡ true → first_listed p (xs ++ c ∷ []) ≡ first_listed p xs ++ route_of c.uaid c.user
first_listed-more p xs c h e =
    ap (take 100) (listed-push p xs c ∙ ap (λ b. listed p xs ++ added b c) e) ∙ take-more 100 (listed p xs) (route_of c.uaid c.user) h (one_route c.uaid c.user)

-- one of another kind
pub first_listed-other : (p : Cell → Bool) (xs : List Cell) (c : Cell) → p c ≡ false → first_listed p (xs ++ c ∷ []) ≡ first_listed p xs
first_listed-other p xs c e = ap (take 100) (listed-push p xs c ∙ ap (λ b. listed p xs ++ added b c) e ∙ append-nil (listed p xs))

-- 100 are listed already
pub first_listed-full : (p : Cell → Bool) (xs : List Cell) (c : Cell) → 100 ≤ length (first_listed p xs) → first_listed p (xs ++ c ∷ []) ≡ first_listed p xs
first_listed-full p xs c h = ap (take 100) (listed-push p xs c) ∙ take-full 100 (listed p xs) (added (p c) c) h

values_by : (b : Bool) (e : ℕ × Cell) (ms : List Cell) (es : List (ℕ × Cell)) → flat_map (λ c. route_of c.uaid c.user) ms ≡ flat_map (λ d. route_of d.1.uaid d.1.user) es →
    flat_map (λ c. route_of c.uaid c.user) (if b then e.1 ∷ ms else ms) ≡ flat_map (λ d. route_of d.1.uaid d.1.user) (if b then e ∷ es else es)
values_by true e ms es h = ap (λ (l : Listed). route_of e.1.uaid e.1.user ++ l) h
values_by false e ms es h = h

listed-values : (p : Cell → Bool) (es : List (ℕ × Cell)) → listed p (values_of es) ≡ flat_map (λ d. route_of d.1.uaid d.1.user) (filter (λ d. p d.1) es)
listed-values p [] = refl
listed-values p (e ∷ es) = values_by (p e.1) e (filter p (values_of es)) (filter (λ d. p d.1) es) (listed-values p es)

-- the users of the cells of a world
pub users_where-by : (p : Cell → Bool) (w : World) (es : List (ℕ × Cell)) → es ≡ w.cells → first_listed p (values_of es) ≡ users_where p w
users_where-by p w es e = ap (take 100) (listed-values p es ∙ ap (λ (ds : List (ℕ × Cell)). flat_map (λ d. route_of d.1.uaid d.1.user) (filter (λ d. p d.1) ds)) e)
