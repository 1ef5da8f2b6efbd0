-- The entries of rows, where rows come and go.
use Rattle.std.proofs.Common.{◌≡◌, ℕ, ◌+◌, ◌<◌, zero, suc, Bool, true, false, ◌&&◌, ◌||◌, not, cond, List, [], ◌∷◌, ◌++◌, take, drop, length, get_or, filter, refl, ap, ◌∙◌, sym, arith, add-one, append_assoc, drop-cons}
use Rattle.std.specs.Prelude.{map, remove, nat_lt, nat_le, ◌==◌, Option, Some, None, IfNone, IfSome, if◌then◌else◌}
use Rattle.std.specs.List.{list_any}
use Rattle.std.proofs.lemmas.List.{append-nil, drop_all, take_all, length-map}
use Rattle.std.proofs.lemmas.List.Elements.{filter_more}
use Rattle.std.proofs.lemmas.Bool.Decides.{nat_tests}
use Rattle.push_model.specs.declared.ids.MsgId.{MsgId}
use Rattle.push_model.specs.declared.parts.Row.{Row}
use Rattle.push_model.specs.Messages.{is_expired}
use Rattle.push_model.specs.Rows.{is_row}
use Rattle.push_model.specs.Cells.{unmarked_row}
use Rattle.clock_expiry.specs.Expiry.{expires_at}
use Rattle.clock_expiry.specs.Dues.{has_come, IsSoonest as IsSoonestDue}
use Rattle.clock_expiry.proofs.DueLemmas.{with_due-swap, without-with_due, list_any-with_due}
use Rattle.message_rows.specs.RowDues.{with_expiry, without_expiry, with_message, without_message, dues_of}
use Rattle.message_rows.specs.RowStock.{marked_row, is_past, expires_then, NeverExpire, IsSoonest}

-- ---- one more row, and one less

with_expiry-swap : (o p : Option ℕ) (i j : MsgId) (ds : List (ℕ × MsgId)) → with_expiry o i (with_expiry p j ds) ≡ with_expiry p j (with_expiry o i ds)
with_expiry-swap None p i j ds = refl
with_expiry-swap (Some t) None i j ds = refl
with_expiry-swap (Some t) (Some u) i j ds = with_due-swap (t, i) (u, j) ds

-- a row among others
pub dues_of-middle : (xs ys : List Row) (r : Row) → dues_of (xs ++ r ∷ ys) ≡ with_message r.message (dues_of (xs ++ ys))
dues_of-middle [] ys r = refl
dues_of-middle (x ∷ xs) ys r =
    ap (with_message x.message) (dues_of-middle xs ys r)
    ∙ with_expiry-swap (expires_at x.message) (expires_at r.message) x.message.id r.message.id (dues_of (xs ++ ys))

-- a row at the end
pub dues_of_push : (xs : List Row) (r : Row) → dues_of (xs ++ r ∷ []) ≡ with_message r.message (dues_of xs)
dues_of_push xs r = dues_of-middle xs [] r ∙ ap (λ ys. with_message r.message (dues_of ys)) (append-nil xs)

without-with_expiry : (o : Option ℕ) (i : MsgId) (ds : List (ℕ × MsgId)) → without_expiry o i (with_expiry o i ds) ≡ ds
without-with_expiry None i ds = refl
without-with_expiry (Some t) i ds = without-with_due t i ds

-- a row among others goes
pub dues_of-less : (xs ys : List Row) (r : Row) → without_message r.message (dues_of (xs ++ r ∷ ys)) ≡ dues_of (xs ++ ys)
dues_of-less xs ys r =
    ap (without_message r.message) (dues_of-middle xs ys r) ∙ without-with_expiry (expires_at r.message) r.message.id (dues_of (xs ++ ys))

parted : (rows : List Row) (i : ℕ) (r : Row) → i < length rows → r ≡ get_or rows i r → rows ≡ take i rows ++ r ∷ drop (suc i) rows
parted [] i r lt e = absurd (omega arith)
parted (x ∷ xs) zero r lt e = ap (λ y. y ∷ xs) (sym e)
parted (x ∷ xs) (suc i) r lt e = ap (λ ys. x ∷ ys) (parted xs i r (omega arith) e)

-- the row at that place goes
pub dues_of-remove : (rows : List Row) (i : ℕ) (r : Row) → i < length rows → r ≡ get_or rows i r → without_message r.message (dues_of rows) ≡ dues_of (remove rows i)
dues_of-remove rows i r lt e = ap (λ ys. without_message r.message (dues_of ys)) (parted rows i r lt e) ∙ dues_of-less (take i rows) (drop (suc i) rows) r

-- ---- several rows go

drop_cases : (b : Bool) (front rest : List Row) (r : Row) →
    (if b then dues_of (front ++ r ∷ rest) else without_message r.message (dues_of (front ++ r ∷ rest))) ≡ dues_of ((front ++ cond b (r ∷ []) []) ++ rest)
drop_cases true front rest r = ap dues_of (sym (append_assoc front (r ∷ []) rest))
drop_cases false front rest r = dues_of-less front rest r ∙ ap (λ ys. dues_of (ys ++ rest)) (sym (append-nil front))

-- one more row has been looked at
pub dropped_more : (q : Row → Bool) (rows : List Row) (i : ℕ) (r : Row) (ds es : List (ℕ × MsgId)) → i < length rows → r ≡ get_or rows i r →
    ds ≡ dues_of (filter q (take i rows) ++ drop i rows) → es ≡ (if q r then ds else without_message r.message ds) →
    es ≡ dues_of (filter q (take (i + 1) rows) ++ drop (i + 1) rows)
dropped_more q rows i r ds es lt e h k =
    let front = filter q (take i rows) in
    let rest = drop (i + 1) rows in
    let split : drop i rows ≡ r ∷ rest = rw add-one (drop-cons rows i r lt ∙ ap (λ x. x ∷ drop (suc i) rows) (sym e)) in
    let more : filter q (take (i + 1) rows) ≡ front ++ cond (q r) (r ∷ []) [] = filter_more q rows i r lt ∙ ap (λ x. front ++ cond (q x) (x ∷ []) []) (sym e) in
    k
    ∙ ap (λ d. if q r then d else without_message r.message d) (h ∙ ap (λ ys. dues_of (front ++ ys)) split)
    ∙ drop_cases (q r) front rest r
    ∙ ap (λ ys. dues_of (ys ++ rest)) (sym more)

-- ---- rows that are changed, and whose messages stay

-- as many rows, put back where the others were
pub put_again : (n : ℕ) (xs ys : List Row) → length ys ≡ length xs → length xs ≡ n → take n (ys ++ drop (length ys) xs) ≡ ys
put_again n xs ys e h = rw (drop_all (length ys) xs (omega arith), append-nil ys) (take_all n ys (omega arith))

-- the changed rows
pub put_back : (f : Row → Row) (n : ℕ) (xs ys : List Row) → ys ≡ map f xs → length xs ≡ n → take n (ys ++ drop (length ys) xs) ≡ map f xs
put_back f n xs ys e h = put_again n xs ys (ap length e ∙ length-map xs f) h ∙ e

-- rows of the same messages are as many
pub length-same : (xs ys : List Row) → map (λ r. r.message) ys ≡ map (λ r. r.message) xs → length ys ≡ length xs
length-same xs ys e = sym (length-map ys (λ r. r.message)) ∙ ap length e ∙ length-map xs (λ r. r.message)

pub dues_of-map : (f : Row → Row) (rows : List Row) → ((r : Row) → (f r).message ≡ r.message) → dues_of (map f rows) ≡ dues_of rows
dues_of-map f [] h = refl
dues_of-map f (r ∷ rows) h = ap (λ m. with_message m (dues_of (map f rows))) (h r) ∙ ap (with_message r.message) (dues_of-map f rows h)

pub dues_of-unmarked : (rows : List Row) → dues_of (map unmarked_row rows) ≡ dues_of rows
dues_of-unmarked rows = dues_of-map unmarked_row rows (λ r. refl)

-- rows of the same messages have the same entries
pub dues_of-same : (xs ys : List Row) → map (λ r. r.message) ys ≡ map (λ r. r.message) xs → dues_of ys ≡ dues_of xs
dues_of-same [] [] e = refl
dues_of-same [] (y ∷ ys) e = cc
dues_of-same (x ∷ xs) [] e = cc
dues_of-same (x ∷ xs) (y ∷ ys) e =
    let one : y.message ≡ x.message = cc in
    let others : map (λ r. r.message) ys ≡ map (λ r. r.message) xs = cc in
    ap (λ m. with_message m (dues_of ys)) one ∙ ap (with_message x.message) (dues_of-same xs ys others)

-- ---- when rows expire

-- the entry passes, if there is one
abbrev passes : (ℕ × MsgId → Bool) → Option ℕ → MsgId → Bool
passes q None i = false
passes q (Some t) i = q (t, i)

any_with : (q : ℕ × MsgId → Bool) (o : Option ℕ) (i : MsgId) (ds : List (ℕ × MsgId)) → list_any q (with_expiry o i ds) ≡ (passes q o i || list_any q ds)
any_with q None i ds = refl
any_with q (Some t) i ds = list_any-with_due q (t, i) ds

any_of : (q : ℕ × MsgId → Bool) (p : Row → Bool) (rows : List Row) → ((r : Row) → passes q (expires_at r.message) r.message.id ≡ p r) →
    list_any q (dues_of rows) ≡ list_any p rows
any_of q p [] h = refl
any_of q p (r ∷ rows) h =
    any_with q (expires_at r.message) r.message.id (dues_of rows)
    ∙ ap (λ b. b || list_any q (dues_of rows)) (h r)
    ∙ ap (λ b. p r || b) (any_of q p rows h)

past_by : (b : Bool) (ttl accepted moment : ℕ) (i : MsgId) → (ttl == 0) ≡ b →
    passes (has_come moment) (if b then None else Some (accepted + ttl)) i ≡ (nat_lt 0 ttl && nat_le (accepted + ttl) moment)
past_by true ttl accepted moment i h = grind (arith, nat_tests)
past_by false ttl accepted moment i h = grind (arith, nat_tests)

then_by : (b : Bool) (ttl accepted t : ℕ) (i : MsgId) → (ttl == 0) ≡ b →
    passes (λ e. e.0 == t) (if b then None else Some (accepted + ttl)) i ≡ (not b && (accepted + ttl == t))
then_by true ttl accepted t i h = refl
then_by false ttl accepted t i h = refl

-- an entry has come where a row is expired
pub come-past : (moment : ℕ) (rows : List Row) → list_any (has_come moment) (dues_of rows) ≡ list_any (is_past moment) rows
come-past moment rows =
    any_of (has_come moment) (is_past moment) rows
    (λ r. past_by (r.message.ask.terms.ttl == 0) r.message.ask.terms.ttl r.message.accepted moment r.message.id refl)

pub comes-then : (t : ℕ) (rows : List Row) → list_any (λ e. e.0 == t) (dues_of rows) ≡ list_any (expires_then t) rows
comes-then t rows =
    any_of (λ e. e.0 == t) (expires_then t) rows
    (λ r. then_by (r.message.ask.terms.ttl == 0) r.message.ask.terms.ttl r.message.accepted t r.message.id refl)

-- rows without entries never expire
pub never : (rows : List Row) (ds : List (ℕ × MsgId)) → ds ≡ dues_of rows → ds ≡ [] → NeverExpire rows
never rows ds e n moment = sym (come-past moment rows) ∙ ap (list_any (has_come moment)) (sym e ∙ n)

-- the soonest entry is the soonest row's
pub soonest : (rows : List Row) (ds : List (ℕ × MsgId)) (t : ℕ) → ds ≡ dues_of rows → IsSoonestDue ds t → IsSoonest rows t
soonest rows ds t e s =
    record {
      comes = sym (comes-then t rows) ∙ ap (list_any (λ d. d.0 == t)) (sym e) ∙ s.comes;
      before = λ moment lt. sym (come-past moment rows) ∙ ap (list_any (has_come moment)) (sym e) ∙ s.before moment lt;
    }

-- by whether there is a soonest entry
pub never_if : (o : Option ℕ) (rows : List Row) (ds : List (ℕ × MsgId)) → ds ≡ dues_of rows → IfNone o (ds ≡ []) → IfNone o (NeverExpire rows)
never_if None rows ds e n = never rows ds e n
never_if (Some t) rows ds e n = tt

pub soonest_if : (o : Option ℕ) (rows : List Row) (ds : List (ℕ × MsgId)) → ds ≡ dues_of rows → IfSome o (IsSoonestDue ds) → IfSome o (IsSoonest rows)
soonest_if None rows ds e s = tt
soonest_if (Some t) rows ds e s = soonest rows ds t e s

keep_cases : (b : Bool) (r : Row) (xs ys : List Row) → b ≡ false → ys ≡ xs → cond (not b) (r ∷ ys) ys ≡ r ∷ xs
keep_cases true r xs ys h e = cc
keep_cases false r xs ys h e = ap (λ zs. r ∷ zs) e

or_none : (a b : Bool) → (a || b) ≡ false → a ≡ false
or_none true b h = cc
or_none false b h = refl

or_none_right : (a b : Bool) → (a || b) ≡ false → b ≡ false
or_none_right true b h = cc
or_none_right false b h = h

-- all rows stay where none is expired
pub filter-none_past : (moment : ℕ) (rows : List Row) → list_any (is_past moment) rows ≡ false → filter (λ r. not (is_expired moment r.message)) rows ≡ rows
filter-none_past moment [] h = refl
filter-none_past moment (r ∷ rows) h =
    keep_cases (is_past moment r) r rows (filter (λ x. not (is_expired moment x.message)) rows) (or_none (is_past moment r) (list_any (is_past moment) rows) h)
    (filter-none_past moment rows (or_none_right (is_past moment r) (list_any (is_past moment) rows) h))
