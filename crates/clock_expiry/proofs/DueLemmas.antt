-- Entries in order, with one more and with one less.
use Rattle.std.proofs.Common.{◌≡◌, ℕ, ◌+◌, ◌<◌, ◌≤◌, suc, Bool, true, false, ◌&&◌, ◌||◌, not, cond, List, [], ◌∷◌, length, refl, ap, ◌∙◌, sym, subst, arith}
use Rattle.std.specs.Prelude.{nat_lt, nat_le, insert, find, position, slice_get, IsTrue, Some, None}
use Rattle.std.specs.List.{list_any, list_all, position_or_len}
use Rattle.std.proofs.lemmas.Bool.{and_parts, and_from, ltb-false, lt-ltb, eq-eqb}
use Rattle.std.proofs.lemmas.List.Sums.{prefix_len-le-length}
use Rattle.std.proofs.lemmas.Bool.Decides.{nat_tests}
use Rattle.push_model.specs.declared.ids.MsgId.{MsgId}
use Rattle.push_model.specs.Names.{is_same_id}
use Rattle.push_model.specs.Keyed.{without_first}
use Rattle.clock_expiry.specs.Dues.{is_before, is_least, is_ascending, with_due, is_due, has_come, IsSoonest}
use Rattle.clock_expiry.proofs.DueOrder.{before-asym, before-behind, before-total, before-moment, before-other}

-- ---- one more entry

not_of : (b : Bool) → b ≡ false → not b ≡ true
not_of b e = ap not e

of_not : (b : Bool) → not b ≡ true → b ≡ false
of_not true e = cc
of_not false e = refl

or_swapped : (a b c : Bool) → (a || (b || c)) ≡ (b || (a || c))
or_swapped true true c = refl
or_swapped true false c = refl
or_swapped false b c = refl

and_swapped : (a b c : Bool) → (a && (b && c)) ≡ (b && (a && c))
and_swapped true b c = refl
and_swapped false true c = refl
and_swapped false false c = refl

any_cases : (q : ℕ × MsgId → Bool) (b : Bool) (e x : ℕ × MsgId) (xs ws : List (ℕ × MsgId)) → list_any q ws ≡ (q e || list_any q xs) →
    list_any q (cond b (x ∷ ws) (e ∷ x ∷ xs)) ≡ (q e || (q x || list_any q xs))
any_cases q true e x xs ws h = rw h (or_swapped (q x) (q e) (list_any q xs))
any_cases q false e x xs ws h = refl

-- what some entry passes
pub list_any-with_due : (q : ℕ × MsgId → Bool) (e : ℕ × MsgId) (xs : List (ℕ × MsgId)) → list_any q (with_due e xs) ≡ (q e || list_any q xs)
list_any-with_due q e [] = refl
list_any-with_due q e (x ∷ xs) = any_cases q (is_before x e) e x xs (with_due e xs) (list_any-with_due q e xs)

all_cases : (q : ℕ × MsgId → Bool) (b : Bool) (e x : ℕ × MsgId) (xs ws : List (ℕ × MsgId)) → list_all q ws ≡ (q e && list_all q xs) →
    list_all q (cond b (x ∷ ws) (e ∷ x ∷ xs)) ≡ (q e && (q x && list_all q xs))
all_cases q true e x xs ws h = rw h (and_swapped (q x) (q e) (list_all q xs))
all_cases q false e x xs ws h = refl

-- what each entry passes
pub list_all-with_due : (q : ℕ × MsgId → Bool) (e : ℕ × MsgId) (xs : List (ℕ × MsgId)) → list_all q (with_due e xs) ≡ (q e && list_all q xs)
list_all-with_due q e [] = refl
list_all-with_due q e (x ∷ xs) = all_cases q (is_before x e) e x xs (with_due e xs) (list_all-with_due q e xs)

-- an entry that isn't behind the least of some is the least of them too
lower : (e x : ℕ × MsgId) (xs : List (ℕ × MsgId)) → is_before x e ≡ false → is_least x xs ≡ true → is_least e xs ≡ true
lower e x [] h l = refl
lower e x (y ∷ ys) h l =
    let parts = and_parts (not (is_before y x)) (is_least x ys) l in
    and_from (not (is_before y e)) (is_least e ys) (not_of (is_before y e) (before-behind y x e (of_not (is_before y x) parts.0) h)) (lower e x ys h parts.1)

ascending_cases : (b : Bool) (e x : ℕ × MsgId) (xs : List (ℕ × MsgId)) → is_before x e ≡ b → is_least x xs ≡ true → is_ascending xs ≡ true →
    is_ascending (with_due e xs) ≡ true → is_ascending (cond b (x ∷ with_due e xs) (e ∷ x ∷ xs)) ≡ true
ascending_cases true e x xs h l a r =
    and_from (is_least x (with_due e xs)) (is_ascending (with_due e xs))
    (list_all-with_due (λ y. not (is_before y x)) e xs ∙ and_from (not (is_before e x)) (is_least x xs) (not_of (is_before e x) (before-asym x e h)) l)
    r
ascending_cases false e x xs h l a r =
    and_from (is_least e (x ∷ xs)) (is_ascending (x ∷ xs))
    (and_from (not (is_before x e)) (is_least e xs) (not_of (is_before x e) h) (lower e x xs h l))
    (and_from (is_least x xs) (is_ascending xs) l a)

pub ascending-with_due : (e : ℕ × MsgId) (xs : List (ℕ × MsgId)) → is_ascending xs ≡ true → is_ascending (with_due e xs) ≡ true
ascending-with_due e [] a = refl
ascending-with_due e (x ∷ xs) a =
    let parts = and_parts (is_least x xs) (is_ascending xs) a in
    ascending_cases (is_before x e) e x xs refl parts.0 parts.1 (ascending-with_due e xs parts.1)

insert_cases : (b : Bool) (e x : ℕ × MsgId) (xs ws : List (ℕ × MsgId)) (n : ℕ) → ws ≡ insert xs n e →
    cond b (x ∷ ws) (e ∷ x ∷ xs) ≡ insert (x ∷ xs) (cond (not (not b)) (1 + n) 0) e
insert_cases true e x xs ws n h =
    let next : 1 + n ≡ suc n = omega arith in
    rw next (ap (λ ys. x ∷ ys) h)
insert_cases false e x xs ws n h = refl

-- the entry goes behind those that are before it
pub with_due-insert : (e : ℕ × MsgId) (xs : List (ℕ × MsgId)) → with_due e xs ≡ insert xs (position_or_len (λ x. not (is_before x e)) xs) e
with_due-insert e [] = refl
with_due-insert e (x ∷ xs) =
    insert_cases (is_before x e) e x xs (with_due e xs) (position_or_len (λ y. not (is_before y e)) xs) (with_due-insert e xs)

-- ---- two more entries

pair_cases : (b c : Bool) (d e : ℕ × MsgId) (xs : List (ℕ × MsgId)) → is_before e d ≡ b → is_before d e ≡ c →
    cond b (e ∷ d ∷ xs) (d ∷ e ∷ xs) ≡ cond c (d ∷ e ∷ xs) (e ∷ d ∷ xs)
pair_cases true true d e xs h k = let other = before-asym e d h in cc
pair_cases true false d e xs h k = refl
pair_cases false true d e xs h k = refl
pair_cases false false d e xs h k = let same = before-total d e k h in ap (λ y. d ∷ y ∷ xs) (sym same) ∙ ap (λ y. y ∷ d ∷ xs) same

passes_by : (b : Bool) (x d e : ℕ × MsgId) → is_before d e ≡ b → is_before x d ≡ false → is_before x e ≡ true → b ≡ true
passes_by true x d e q h k = refl
passes_by false x d e q h k = let other = before-behind x d e h q in cc

-- what is before an entry, and not before another, shows their order
passes : (x d e : ℕ × MsgId) → is_before x d ≡ false → is_before x e ≡ true → is_before d e ≡ true
passes x d e h k = passes_by (is_before d e) x d e refl h k

swap_cases : (b c : Bool) (d e x : ℕ × MsgId) (xs : List (ℕ × MsgId)) → is_before x e ≡ b → is_before x d ≡ c →
    with_due d (with_due e xs) ≡ with_due e (with_due d xs) →
    with_due d (cond b (x ∷ with_due e xs) (e ∷ x ∷ xs)) ≡ with_due e (cond c (x ∷ with_due d xs) (d ∷ x ∷ xs))
swap_cases true true d e x xs h k r = rw (h, k) (ap (λ ys. x ∷ ys) r)
swap_cases true false d e x xs h k r = rw (k, passes x d e k h, h) refl
swap_cases false true d e x xs h k r = rw (h, passes x e d h k, k) refl
swap_cases false false d e x xs h k r = rw (h, k) (pair_cases (is_before e d) (is_before d e) d e (x ∷ xs) refl refl)

-- two entries go in in either order
pub with_due-swap : (d e : ℕ × MsgId) (xs : List (ℕ × MsgId)) → with_due d (with_due e xs) ≡ with_due e (with_due d xs)
with_due-swap d e [] = pair_cases (is_before e d) (is_before d e) d e [] refl refl
with_due-swap d e (x ∷ xs) = swap_cases (is_before x e) (is_before x d) d e x xs refl refl (with_due-swap d e xs)

-- ---- one less

itself : (i : MsgId) → is_same_id i i ≡ true
itself i = grind (arith, nat_tests)

same_due : (t : ℕ) (i : MsgId) → is_due t i (t, i) ≡ true
same_due t i = rw (eq-eqb t t refl) (itself i)

without_cases : (b : Bool) (t : ℕ) (i : MsgId) (x : ℕ × MsgId) (xs : List (ℕ × MsgId)) → is_before x (t, i) ≡ b →
    without_first (is_due t i) (with_due (t, i) xs) ≡ xs →
    without_first (is_due t i) (cond b (x ∷ with_due (t, i) xs) ((t, i) ∷ x ∷ xs)) ≡ x ∷ xs
without_cases true t i x xs h r = rw (before-other x t i h) (ap (λ ys. x ∷ ys) r)
without_cases false t i x xs h r = rw (same_due t i) refl

-- an entry goes in and out again
pub without-with_due : (t : ℕ) (i : MsgId) (xs : List (ℕ × MsgId)) → without_first (is_due t i) (with_due (t, i) xs) ≡ xs
without-with_due t i [] = rw (same_due t i) refl
without-with_due t i (x ∷ xs) = without_cases (is_before x (t, i)) t i x xs refl (without-with_due t i xs)

all_without : (p q : ℕ × MsgId → Bool) (b : Bool) (x : ℕ × MsgId) (xs ws : List (ℕ × MsgId)) → p x ≡ true → list_all p xs ≡ true → list_all p ws ≡ true →
    list_all p (cond b xs (x ∷ ws)) ≡ true
all_without p q true x xs ws h k l = k
all_without p q false x xs ws h k l = and_from (p x) (list_all p ws) h l

list_all-without_first : (p q : ℕ × MsgId → Bool) (xs : List (ℕ × MsgId)) → list_all p xs ≡ true → list_all p (without_first q xs) ≡ true
list_all-without_first p q [] h = refl
list_all-without_first p q (x ∷ xs) h =
    let parts = and_parts (p x) (list_all p xs) h in
    all_without p q (q x) x xs (without_first q xs) parts.0 parts.1 (list_all-without_first p q xs parts.1)

ascending_without : (b : Bool) (x : ℕ × MsgId) (xs ws : List (ℕ × MsgId)) → is_ascending xs ≡ true → is_least x ws ≡ true → is_ascending ws ≡ true →
    is_ascending (cond b xs (x ∷ ws)) ≡ true
ascending_without true x xs ws a l r = a
ascending_without false x xs ws a l r = and_from (is_least x ws) (is_ascending ws) l r

pub ascending-without_first : (q : ℕ × MsgId → Bool) (xs : List (ℕ × MsgId)) → is_ascending xs ≡ true → is_ascending (without_first q xs) ≡ true
ascending-without_first q [] a = refl
ascending-without_first q (x ∷ xs) a =
    let parts = and_parts (is_least x xs) (is_ascending xs) a in
    ascending_without (q x) x xs (without_first q xs) parts.1 (list_all-without_first (λ y. not (is_before y x)) q xs parts.0) (ascending-without_first q xs parts.1)

-- ---- the first entry

later : (t moment : ℕ) → nat_lt moment t ≡ true → nat_le t moment ≡ false
later t moment h = grind (arith, nat_tests)

none_behind : (e : ℕ × MsgId) (xs : List (ℕ × MsgId)) (moment : ℕ) → is_least e xs ≡ true → nat_lt moment e.0 ≡ true → list_any (has_come moment) xs ≡ false
none_behind e [] moment l h = refl
none_behind e (x ∷ xs) moment l h =
    let parts = and_parts (not (is_before x e)) (is_least e xs) l in
    rw (later x.0 moment (before-moment x e moment (of_not (is_before x e) parts.0) h)) (none_behind e xs moment parts.1 h)

-- none has come before the first
pub none_come : (e : ℕ × MsgId) (xs : List (ℕ × MsgId)) (moment : ℕ) → is_ascending (e ∷ xs) ≡ true → moment < e.0 → list_any (has_come moment) (e ∷ xs) ≡ false
none_come e xs moment a h =
    let parts = and_parts (is_least e xs) (is_ascending xs) a in
    let test : nat_lt moment e.0 ≡ true = lt-ltb moment e.0 h in
    rw (later e.0 moment test) (none_behind e xs moment parts.0 test)

pub first_soonest : (e : ℕ × MsgId) (xs : List (ℕ × MsgId)) → is_ascending (e ∷ xs) ≡ true → IsSoonest (e ∷ xs) e.0
first_soonest e xs a = record { comes = rw (eq-eqb e.0 e.0 refl) refl; before = λ moment h. none_come e xs moment a h }

or_none : (a b : Bool) → (a || b) ≡ false → a ≡ false
or_none true b h = cc
or_none false b h = refl

or_none_right : (a b : Bool) → (a || b) ≡ false → b ≡ false
or_none_right true b h = cc
or_none_right false b h = h

-- nothing is found where none passes
pub find-absent : {A : Type 0} (p : A → Bool) (xs : List A) → list_any p xs ≡ false → find p xs ≡ None
find-absent p [] h = refl
find-absent p (x ∷ xs) h = rw (or_none (p x) (list_any p xs) h) (find-absent p xs (or_none_right (p x) (list_any p xs) h))

-- the first entry, as it is read, has the soonest moment
pub soonest_read : (xs : List (ℕ × MsgId)) (e : ℕ × MsgId) → Some e ≡ slice_get xs 0 → IsTrue (is_ascending xs) → IsSoonest xs e.0
soonest_read [] e h a = cc
soonest_read (x ∷ xs) e h a = let same : x ≡ e = cc in subst (λ y. IsSoonest (x ∷ xs) y.0) same (first_soonest x xs a)

-- and none has come before it
pub none_read : (xs : List (ℕ × MsgId)) (e : ℕ × MsgId) (moment : ℕ) → Some e ≡ slice_get xs 0 → IsTrue (is_ascending xs) → moment < e.0 →
    list_any (has_come moment) xs ≡ false
none_read xs e moment h a l = (soonest_read xs e h a).before moment l

no_place : (p : ℕ × MsgId → Bool) (xs : List (ℕ × MsgId)) (b : Bool) → nat_lt (position_or_len p xs) (length xs) ≡ b →
    None ≡ cond b (Some (position_or_len p xs)) None → length xs ≡ position_or_len p xs
no_place p xs true l e = cc
no_place p xs false l e = let most = prefix_len-le-length (λ x. not (p x)) xs in let least = ltb-false (position_or_len p xs) (length xs) l in omega arith

-- where there is no position, it is the length
pub no_position : (p : ℕ × MsgId → Bool) (xs : List (ℕ × MsgId)) → None ≡ position p xs → length xs ≡ position_or_len p xs
no_position p xs e = no_place p xs (nat_lt (position_or_len p xs) (length xs)) refl e

-- the entry's place is within the list or at its end
pub place_within : (e : ℕ × MsgId) (xs : List (ℕ × MsgId)) → position_or_len (λ x. not (is_before x e)) xs ≤ length xs
place_within e xs = prefix_len-le-length (λ x. not (not (is_before x e))) xs
