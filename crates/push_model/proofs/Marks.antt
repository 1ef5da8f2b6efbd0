-- A message of a pool by its number, where one message is marked.
use Rattle.std.proofs.Common.{◌≡◌, ◌≢◌, ℕ, ◌+◌, Bool, true, false, ◌&&◌, ◌||◌, not, cond, ◌⊎◌, inl, inr, List, [], ◌∷◌, ◌++◌, refl, ap, sym, subst, arith}
use Rattle.std.specs.Prelude.{find, Option, Some, None, is_some, ◌==◌, nat_lt}
use Rattle.std.specs.List.{list_all}
use Rattle.std.proofs.lemmas.Bool.Decides.{nat_tests}
use Rattle.push_model.specs.MessageValue.{MessageValue}
use Rattle.push_model.specs.Messages.{is_same_topic}
use Rattle.push_model.specs.Keyed.{with_first}
use Rattle.push_model.specs.Pools.{Taken, Pool, is_taken, taken_at, is_sent_to, replaces, marked}
use Rattle.push_model.proofs.Members.{true_not_false}

-- a mark leaves the message, and doesn't take back that it was kept
pub record IsMark (f : Taken → Taken) : Type 0 where
  pub message : (t : Taken) → (f t).message ≡ t.message
  pub kept : (t : Taken) → t.kept ≡ true → (f t).kept ≡ true

-- the mark of a message that may not be there
abbrev pub mapped : (Taken → Taken) → Option Taken → Option Taken
mapped f None = None
mapped f (Some t) = Some (f t)

same_is_taken : (n : ℕ) (f : Taken → Taken) (t : Taken) → IsMark f → is_taken n (f t) ≡ is_taken n t
same_is_taken n f t k = ap (λ m. m.id.number == n) (k.message t)

-- a mark is found at its own number
find_marked_cons : (n : ℕ) (f : Taken → Taken) (b : Bool) (x : Taken) (xs ys : List Taken) → IsMark f → is_taken n x ≡ b →
    find (is_taken n) ys ≡ mapped f (find (is_taken n) xs) → find (is_taken n) (cond b (f x ∷ xs) (x ∷ ys)) ≡ mapped f (cond b (Some x) (find (is_taken n) xs))
find_marked_cons n f true x xs ys k e ih = rw (same_is_taken n f x k, e) refl
find_marked_cons n f false x xs ys k e ih = rw e ih

find-marked : (n : ℕ) (f : Taken → Taken) → IsMark f → (xs : List Taken) → find (is_taken n) (with_first (is_taken n) f xs) ≡ mapped f (find (is_taken n) xs)
find-marked n f k [] = refl
find-marked n f k (x ∷ xs) = find_marked_cons n f (is_taken n x) x xs (with_first (is_taken n) f xs) k refl (find-marked n f k xs)

other_fails : (n j : ℕ) (x : Taken) → n ≢ j → is_taken j x ≡ true → is_taken n x ≡ false
other_fails n j x ne e = grind (arith, nat_tests)

-- and nothing changes at another number
find_other_cons : (n j : ℕ) (f : Taken → Taken) (b : Bool) (x : Taken) (xs ys : List Taken) → IsMark f → n ≢ j → is_taken j x ≡ b →
    find (is_taken n) ys ≡ find (is_taken n) xs → find (is_taken n) (cond b (f x ∷ xs) (x ∷ ys)) ≡ cond (is_taken n x) (Some x) (find (is_taken n) xs)
find_other_cons n j f true x xs ys k ne e ih = let no = other_fails n j x ne e in rw (same_is_taken n f x k, no) refl
find_other_cons n j f false x xs ys k ne e ih = rw ih refl

find-other : (n j : ℕ) (f : Taken → Taken) → IsMark f → (xs : List Taken) → n ≢ j → find (is_taken n) (with_first (is_taken j) f xs) ≡ find (is_taken n) xs
find-other n j f k [] ne = refl
find-other n j f k (x ∷ xs) ne = find_other_cons n j f (is_taken j x) x xs (with_first (is_taken j) f xs) k ne refl (find-other n j f k xs ne)

-- two numbers are equal or not
pub same_or_not : (n j : ℕ) → (n ≡ j) ⊎ (n ≢ j)
same_or_not n j = grind arith

-- either way
abbrev pub MarkedAt : ℕ → ℕ → (Taken → Taken) → Pool → Type 0
MarkedAt n j f p = ((n ≡ j) × (taken_at n (marked j f p) ≡ mapped f (taken_at n p))) ⊎ ((n ≢ j) × (taken_at n (marked j f p) ≡ taken_at n p))

marked_at_by : (n j : ℕ) (f : Taken → Taken) (p : Pool) → IsMark f → (n ≡ j) ⊎ (n ≢ j) → MarkedAt n j f p
marked_at_by n j f p k (inl e) = inl (e, rw (← e) (find-marked n f k p.taken))
marked_at_by n j f p k (inr ne) = inr (ne, find-other n j f k p.taken ne)

-- one of the two holds
pub marked_at : (n j : ℕ) (f : Taken → Taken) (p : Pool) → IsMark f → MarkedAt n j f p
marked_at n j f p k = marked_at_by n j f p k (same_or_not n j)

-- a fact of each number, by the fact of the number that is marked
marked_by : (P : Option Taken → Option Taken → Type 0) (n j : ℕ) (f : Taken → Taken) (p : Pool) → ((o : Option Taken) → P o o) →
    P (taken_at j p) (mapped f (taken_at j p)) → MarkedAt n j f p → P (taken_at n p) (taken_at n (marked j f p))
marked_by P n j f p same here (inl h) = subst (λ o. P (taken_at n p) o) (sym h.1) (subst (λ k. P (taken_at k p) (mapped f (taken_at k p))) (sym h.0) here)
marked_by P n j f p same here (inr h) = subst (λ o. P (taken_at n p) o) (sym h.1) (same (taken_at n p))

-- what holds of each message and itself, and of the marked message and its mark, holds of each number
pub marked_each : (P : Option Taken → Option Taken → Type 0) (j : ℕ) (f : Taken → Taken) (p : Pool) → IsMark f → ((o : Option Taken) → P o o) →
    P (taken_at j p) (mapped f (taken_at j p)) → (n : ℕ) → P (taken_at n p) (taken_at n (marked j f p))
marked_each P j f p k same here n = marked_by P n j f p same here (marked_at n j f p k)

-- what holds of the marked message
pub marked_here : (n : ℕ) (f : Taken → Taken) (p : Pool) → IsMark f → taken_at n (marked n f p) ≡ mapped f (taken_at n p)
marked_here n f p k = find-marked n f k p.taken

-- ---- the kept message that replaces another

and_mono : (a b c : Bool) → (a ≡ true → b ≡ true) → (a && c) ≡ true → (b && c) ≡ true
and_mono true b c f h = rw (f refl) h
and_mono false b c f h = absurd (true_not_false (sym h))

abbrev fits : MessageValue → MessageValue → Bool
fits m x = nat_lt m.id.number x.id.number && (is_sent_to m.uaid m.chid x && is_same_topic m.ask.terms.topic x.ask.terms.topic)

replaces_marked : (m : MessageValue) (f : Taken → Taken) (t : Taken) → IsMark f → replaces m t ≡ true → replaces m (f t) ≡ true
replaces_marked m f t k h =
    rw (k.message t) (and_mono t.kept (f t).kept (fits m t.message) (k.kept t) h)

found_marked : (m : MessageValue) (f : Taken → Taken) (b c : Bool) (x : Taken) (xs ys : List Taken) → IsMark f → replaces m x ≡ c →
    (is_some (find (replaces m) xs) ≡ true → is_some (find (replaces m) ys) ≡ true) → is_some (cond c (Some x) (find (replaces m) xs)) ≡ true →
    is_some (find (replaces m) (cond b (f x ∷ xs) (x ∷ ys))) ≡ true
found_marked m f true true x xs ys k e ih h = rw (replaces_marked m f x k e) refl
found_marked m f false true x xs ys k e ih h = rw e refl
found_marked m f true false x xs ys k e ih h =
    elim (replaces m (f x)) as (λ r. is_some (cond r (Some (f x)) (find (replaces m) xs)) ≡ true) [ true ↦ refl | false ↦ h ]
found_marked m f false false x xs ys k e ih h = rw e (ih h)

-- a mark takes away no message that replaces m
pub replaced-marked : (m : MessageValue) (j : ℕ) (f : Taken → Taken) (xs : List Taken) → IsMark f → is_some (find (replaces m) xs) ≡ true →
    is_some (find (replaces m) (with_first (is_taken j) f xs)) ≡ true
replaced-marked m j f [] k h = h
replaced-marked m j f (x ∷ xs) k h = found_marked m f (is_taken j x) (replaces m x) x xs (with_first (is_taken j) f xs) k refl (replaced-marked m j f xs k) h

-- ---- numbers below a bound

above_cons : (k : ℕ) (f : Taken → Taken) (b : Bool) (x : Taken) (xs ys : List Taken) → IsMark f →
    list_all (λ t. nat_lt t.message.id.number k) ys ≡ list_all (λ t. nat_lt t.message.id.number k) xs →
    list_all (λ t. nat_lt t.message.id.number k) (cond b (f x ∷ xs) (x ∷ ys)) ≡ list_all (λ t. nat_lt t.message.id.number k) (x ∷ xs)
above_cons k f true x xs ys h ih = rw (h.message x) refl
above_cons k f false x xs ys h ih = rw ih refl

-- a mark changes no number
pub above-marked : (k j : ℕ) (f : Taken → Taken) (xs : List Taken) → IsMark f →
    list_all (λ t. nat_lt t.message.id.number k) (with_first (is_taken j) f xs) ≡ list_all (λ t. nat_lt t.message.id.number k) xs
above-marked k j f [] h = refl
above-marked k j f (x ∷ xs) h = above_cons k f (is_taken j x) x xs (with_first (is_taken j) f xs) h (above-marked k j f xs h)

-- ---- one more message

find_longer : (q : Taken → Bool) (b : Bool) (t x : Taken) (xs ys : List Taken) → (find q xs ≡ Some t → find q ys ≡ Some t) →
    cond b (Some x) (find q xs) ≡ Some t → cond b (Some x) (find q ys) ≡ Some t
find_longer q true t x xs ys g h = h
find_longer q false t x xs ys g h = g h

-- what was found is found
pub find-append : (q : Taken → Bool) (t : Taken) (xs ys : List Taken) → find q xs ≡ Some t → find q (xs ++ ys) ≡ Some t
find-append q t [] ys h = cc
find-append q t (x ∷ xs) ys h = find_longer q (q x) t x xs (xs ++ ys) (find-append q t xs ys) h

new_cons : (n : ℕ) (b : Bool) (x : Taken) (xs ys : List Taken) → is_taken n x ≡ b → nat_lt x.message.id.number n ≡ true →
    find (is_taken n) ys ≡ find (is_taken n) xs → find (is_taken n) (x ∷ ys) ≡ find (is_taken n) xs
new_cons n true x xs ys e l ih = absurd (grind (arith, nat_tests))
new_cons n false x xs ys e l ih = rw e ih

-- the first of both holds
pub and_left : (a b : Bool) → (a && b) ≡ true → a ≡ true
and_left true b h = refl
and_left false b h = h

-- the second of both holds
pub and_right : (a b : Bool) → (a && b) ≡ true → b ≡ true
and_right true b h = h
and_right false b h = cc

-- a number above all isn't found yet
pub find-above : (n : ℕ) (xs ys : List Taken) → list_all (λ t. nat_lt t.message.id.number n) xs ≡ true → find (is_taken n) (xs ++ ys) ≡ find (is_taken n) ys
find-above n [] ys h = refl
find-above n (x ∷ xs) ys h = new_cons n (is_taken n x) x ys (xs ++ ys) refl (and_left _ _ h) (find-above n xs ys (and_right _ _ h))

-- a number above all is not there
pub absent_above : (n : ℕ) (xs : List Taken) → list_all (λ t. nat_lt t.message.id.number n) xs ≡ true → find (is_taken n) xs ≡ None
absent_above n [] h = refl
absent_above n (x ∷ xs) h = new_cons n (is_taken n x) x [] xs refl (and_left _ _ h) (absent_above n xs (and_right _ _ h))

-- a last message of another number is not found
pub find_other_last : (n : ℕ) (t : Taken) (xs : List Taken) → is_taken n t ≡ false → find (is_taken n) (xs ++ t ∷ []) ≡ find (is_taken n) xs
find_other_last n t [] e = rw e refl
find_other_last n t (x ∷ xs) e = rw (find_other_last n t xs e) refl

above_next : (n x : ℕ) → nat_lt x n ≡ true → nat_lt x (n + 1) ≡ true
above_next n x h = grind (arith, nat_tests)

below_itself : (n : ℕ) → nat_lt n (n + 1) ≡ true
below_itself n = grind (arith, nat_tests)

-- one of three holds
pub first_holds : (a b c : Bool) → a ≡ true → (a || b || c) ≡ true
first_holds true b c e = refl
first_holds false b c e = absurd (true_not_false (sym e))

pub second_holds : (a b c : Bool) → b ≡ true → (a || b || c) ≡ true
second_holds true b c e = refl
second_holds false true c e = refl
second_holds false false c e = absurd (true_not_false (sym e))

pub third_holds : (a b c : Bool) → c ≡ true → (a || b || c) ≡ true
third_holds true b c e = refl
third_holds false true c e = refl
third_holds false false true e = refl
third_holds false false false e = absurd (true_not_false (sym e))

-- neither holds
pub neither : (a b : Bool) → (a || not b) ≡ false → (a ≡ false) × (b ≡ true)
neither true b e = absurd (true_not_false e)
neither false true e = (refl, refl)
neither false false e = absurd (true_not_false e)

-- both hold
pub both : (a b : Bool) → a ≡ true → b ≡ true → (a && b) ≡ true
both a b e f = rw (e, f) refl

-- with the next message the bound is the next number
pub above-append : (n : ℕ) (t : Taken) (xs : List Taken) → t.message.id.number ≡ n → list_all (λ x. nat_lt x.message.id.number n) xs ≡ true →
    list_all (λ x. nat_lt x.message.id.number (n + 1)) (xs ++ t ∷ []) ≡ true
above-append n t [] e h = both (nat_lt t.message.id.number (n + 1)) true (rw e (below_itself n)) refl
above-append n t (x ∷ xs) e h =
    both (nat_lt x.message.id.number (n + 1)) _ (above_next n x.message.id.number (and_left _ _ h)) (above-append n t xs e (and_right _ _ h))
