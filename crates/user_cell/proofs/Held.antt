-- What sessions hold, after a step on them; and sums over lists.
use Rattle.std.proofs.Common.{◌≡◌, ℕ, ◌+◌, ◌<◌, ◌≤◌, Bool, true, false, cond, not, List, [], ◌∷◌, ◌++◌, length, take, drop, get_or, refl, ap, arith, Option, Some, None, length-append, length-drop}
use Rattle.std.specs.Prelude.{filter, map, slice_index_or, slice_set, sum_by}
use Rattle.std.proofs.lemmas.List.{length-take}
use Rattle.std.proofs.lemmas.List.Sums.{sum_by-cons, sum_by-set, sum_by_push, length-filter}
use Rattle.std.proofs.lemmas.List.Sums.{count_by-le-length}
use Rattle.push_model.specs.declared.ids.ChannelId.{ChannelId}
use Rattle.push_model.specs.declared.ids.MsgId.{MsgId}
use Rattle.push_model.specs.SessionKey.{SessionKey}
use Rattle.push_model.specs.MessageValue.{MessageValue}
use Rattle.push_model.specs.Keyed.{with_first, without_first}
use Rattle.push_model.specs.Messages.{is_expired, is_message, unexpired}
use Rattle.push_model.specs.Sessions.{Session, acked_in, displaced, held, is_attached_at, new_session, taken}
use Rattle.node_registry.specs.Attaching.{IsJoined}

-- ---- lengths

pub length-filter_le : {A : Type 0} (p : A → Bool) (xs : List A) → length (filter p xs) ≤ length xs
length-filter_le p xs = omega (arith, length-filter p xs, count_by-le-length p xs)

without_head : {A : Type 0} (b : Bool) (x : A) (xs ys : List A) → length ys ≤ length xs → length (cond b xs (x ∷ ys)) ≤ length (x ∷ xs)
without_head true x xs ys h = omega arith
without_head false x xs ys h = omega arith

pub length-without_first_le : {A : Type 0} (p : A → Bool) (xs : List A) → length (without_first p xs) ≤ length xs
length-without_first_le p [] = omega arith
length-without_first_le p (x ∷ xs) = without_head (p x) x xs (without_first p xs) (length-without_first_le p xs)

with_head : {A : Type 0} (b : Bool) (y x : A) (xs ys : List A) → length ys ≡ length xs → length (cond b (y ∷ xs) (x ∷ ys)) ≡ length (x ∷ xs)
with_head true y x xs ys h = refl
with_head false y x xs ys h = omega arith

pub length-with_first : {A : Type 0} (p : A → Bool) (f : A → A) (xs : List A) → length (with_first p f xs) ≡ length xs
length-with_first p f [] = refl
length-with_first p f (x ∷ xs) = with_head (p x) (f x) x xs (with_first p f xs) (length-with_first p f xs)

-- ---- sums

sum_with_head : {A : Type 0} (k : A → ℕ) (b : Bool) (y x : A) (xs ys : List A) → k y ≤ k x → sum_by k ys ≤ sum_by k xs → sum_by k (cond b (y ∷ xs) (x ∷ ys)) ≤ sum_by k (x ∷ xs)
sum_with_head k true y x xs ys e h = omega (arith, sum_by-cons k y xs, sum_by-cons k x xs)
sum_with_head k false y x xs ys e h = omega (arith, sum_by-cons k x ys, sum_by-cons k x xs)

pub sum_by-with_first_le : {A : Type 0} (k : A → ℕ) (p : A → Bool) (f : A → A) (xs : List A) → ((x : A) → k (f x) ≤ k x) → sum_by k (with_first p f xs) ≤ sum_by k xs
sum_by-with_first_le k p f [] h = omega arith
sum_by-with_first_le k p f (x ∷ xs) h = sum_with_head k (p x) (f x) x xs (with_first p f xs) (h x) (sum_by-with_first_le k p f xs h)

sum_without_head : {A : Type 0} (k : A → ℕ) (b : Bool) (x : A) (xs ys : List A) → sum_by k ys ≤ sum_by k xs → sum_by k (cond b xs (x ∷ ys)) ≤ sum_by k (x ∷ xs)
sum_without_head k true x xs ys h = omega (arith, sum_by-cons k x xs)
sum_without_head k false x xs ys h = omega (arith, sum_by-cons k x ys, sum_by-cons k x xs)

pub sum_by-without_first_le : {A : Type 0} (k : A → ℕ) (p : A → Bool) (xs : List A) → sum_by k (without_first p xs) ≤ sum_by k xs
sum_by-without_first_le k p [] = omega arith
sum_by-without_first_le k p (x ∷ xs) = sum_without_head k (p x) x xs (without_first p xs) (sum_by-without_first_le k p xs)

sum_filter_head : {A : Type 0} (k : A → ℕ) (b : Bool) (x : A) (xs ys : List A) → sum_by k ys ≤ sum_by k xs → sum_by k (cond b (x ∷ ys) ys) ≤ sum_by k (x ∷ xs)
sum_filter_head k true x xs ys h = omega (arith, sum_by-cons k x ys, sum_by-cons k x xs)
sum_filter_head k false x xs ys h = omega (arith, sum_by-cons k x xs)

pub sum_by-filter_le : {A : Type 0} (k : A → ℕ) (p : A → Bool) (xs : List A) → sum_by k (filter p xs) ≤ sum_by k xs
sum_by-filter_le k p [] = omega arith
sum_by-filter_le k p (x ∷ xs) = sum_filter_head k (p x) x xs (filter p xs) (sum_by-filter_le k p xs)

pub sum_by-map_le : {A : Type 0} (k : A → ℕ) (f : A → A) (xs : List A) → ((x : A) → k (f x) ≤ k x) → sum_by k (map f xs) ≤ sum_by k xs
sum_by-map_le k f [] h = omega arith
sum_by-map_le k f (x ∷ xs) h = let e = h x in let t = sum_by-map_le k f xs h in omega (arith, sum_by-cons k (f x) (map f xs), sum_by-cons k x xs)

pub sum_by-set_le : {A : Type 0} (k : A → ℕ) (xs : List A) (i : ℕ) (x y : A) → i < length xs → x ≡ slice_index_or xs i x → k y ≤ k x → sum_by k (slice_set xs i y) ≤ sum_by k xs
sum_by-set_le k xs i x y lt is le = let same : k x ≡ k (get_or xs i x) = ap k is in omega (arith, sum_by-set k xs i y x lt)

-- ---- what one session holds

pub acked_le : (h : ChannelId) (i : MsgId) (x : Session) → length (held (acked_in h i x)) ≤ length (held x)
acked_le h i x = omega (arith, length-append (without_first (is_message h i) x.direct) x.inbox, length-append x.direct x.inbox, length-without_first_le (is_message h i) x.direct)

taken_by : (direct inbox us : List MessageValue) → length us ≤ length inbox → length ((direct ++ take 10 us) ++ drop 10 us) ≤ length (direct ++ inbox)
taken_by direct inbox us le = omega (arith, length-append (direct ++ take 10 us) (drop 10 us), length-append direct (take 10 us), length-append direct inbox, length-take 10 us, length-drop 10 us)

pub taken_le : (moment : ℕ) (x : Session) → length (held (taken moment x)) ≤ length (held x)
taken_le moment x = taken_by x.direct x.inbox (unexpired moment x.inbox) (length-filter_le (λ m. not (is_expired moment m)) x.inbox)

-- ---- a session that joins holds nothing

pub record Joins (xs ys : List Session) : Type 0 where
  pub held : sum_by (λ x. length (held x)) ys ≤ sum_by (λ x. length (held x)) xs
  pub longer : length ys ≤ length xs + 1

joins_behind : (s : SessionKey) (xs ys : List Session) → sum_by (λ x. length (held x)) ys ≤ sum_by (λ x. length (held x)) xs → length ys ≡ length xs → Joins xs (ys ++ new_session s ∷ [])
joins_behind s xs ys h n =
    record {
      held = omega (arith, sum_by_push (λ x. length (held x)) ys (new_session s));
      longer = omega (arith, length-append ys (new_session s ∷ []));
    }

pub joined_le : (before : Option ℕ) (s : SessionKey) (xs ys : List Session) → IsJoined before s xs ys → Joins xs ys
joined_le None s xs ys h = rw h.1 (joins_behind s xs xs (omega arith) refl)
joined_le (Some at) s xs ys h =
    rw h.4 (joins_behind s xs (with_first (is_attached_at s.node) displaced xs) (sum_by-with_first_le (λ x. length (held x)) (is_attached_at s.node) displaced xs (λ x. omega arith)) (length-with_first (is_attached_at s.node) displaced xs))
