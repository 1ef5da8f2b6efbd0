-- What each step of another pass leaves of a flight, from the flights of a cell to histories.
use Rattle.std.proofs.Common.{◌≡◌, ℕ, Bool, true, false, ◌||◌, not, cond, ◌⊎◌, inl, inr, List, [], ◌∷◌, ◌++◌, refl, ◌∙◌, ap, sym, subst, Ordering, Less, Equal, Greater, arith}
use Rattle.std.specs.Prelude.{find, length, Option, Some, None, is_some, ◌==◌, if◌then◌else◌}
use Rattle.std.specs.Map.{lookup, set_value, remove_entry}
use Rattle.std.specs.Ordering.{nat_cmp, is_eq, match_ordering}
use Rattle.std.specs.BTreeMap.{insert_entry}
use Rattle.std.proofs.lemmas.Bool.Decides.{nat_tests}
use Rattle.push_model.specs.declared.ids.Op.{Op}
use Rattle.push_model.specs.declared.ids.Token.{Token}
use Rattle.push_model.specs.declared.ids.Uaid.{Uaid}
use Rattle.push_model.specs.declared.parts.FlightRow.{FlightRow}
use Rattle.push_model.specs.declared.advance.Advance.{Advance}
use Rattle.push_model.specs.declared.advance.Advance.TheVariants.{Moved as Goes, End as Ends, Out, Absent}
use Rattle.push_model.specs.declared.step.Stage.{Stage}
use Rattle.push_model.specs.declared.step.Stage.TheVariants.{Direct as AtDirect, Store as AtStore, Nudge as AtNudge}
use Rattle.push_model.specs.declared.step.Step.{Step}
use Rattle.push_model.specs.Names.{is_same_op}
use Rattle.push_model.specs.MessageValue.{MessageValue}
use Rattle.push_model.specs.Keyed.{with_first, without_first}
use Rattle.push_model.specs.Cells.{Cell, is_flight, is_there, routed_place}
use Rattle.push_model.specs.Advances.{at_stage, advanced}
use Rattle.push_model.specs.FlightSteps.{flight, begin, begin_to}
use Rattle.push_model.specs.Worlds.{found_or_empty, cell_at, put_beside, with_cell, each}
use Rattle.push_model.specs.Frames.{first_of, flight_among, Given, Nudged, Turned, TurnedBy, SameFlight, IsLeft, is_own}
use Rattle.push_model.proofs.Entries.{at, rem_same}
use Rattle.push_model.proofs.Moving.{Moved, Stay, Advanced, Turn}

-- ---- the relation

same_flight : (T : Stage → Stage → Type 0) (f : FlightRow) → SameFlight T f f
same_flight T f = record { op = refl; message = refl; token = refl; stage = inl refl }

pub is_left : (T : Stage → Stage → Type 0) (f : Option FlightRow) → IsLeft T f f
is_left T None = tt
is_left T (Some f) = same_flight T f

pub left_same : (T : Stage → Stage → Type 0) (f g : Option FlightRow) → g ≡ f → IsLeft T f g
left_same T f g e = subst (IsLeft T f) (sym e) (is_left T f)

pub left_absent : (T : Stage → Stage → Type 0) (g : Option FlightRow) → IsLeft T None g → g ≡ None
left_absent T None h = refl
left_absent T (Some g) h = absurd h

left_gone : (T : Stage → Stage → Type 0) (f : Option FlightRow) → IsLeft T f None → f ≡ None
left_gone T None h = refl
left_gone T (Some f) h = absurd h

wider_flight : (T S : Stage → Stage → Type 0) (f g : FlightRow) → ((s t : Stage) → T s t → S s t) → SameFlight T f g → SameFlight S f g
wider_flight T S f g k h =
    record { op = h.op; message = h.message; token = h.token; stage = elim h.stage [ inl e ↦ inl e | inr x ↦ inr (k f.stage g.stage x) ] }

pub left_wider : (T S : Stage → Stage → Type 0) (f g : Option FlightRow) → ((s t : Stage) → T s t → S s t) → IsLeft T f g → IsLeft S f g
left_wider T S None None k h = tt
left_wider T S None (Some g) k h = h
left_wider T S (Some f) None k h = h
left_wider T S (Some f) (Some g) k h = wider_flight T S f g k h

-- a stage turns only once
given_last : (s t u : Stage) → Given s t → Turned t u → ⊥
given_last (AtDirect n a) t u h k =
    elim (subst (λ z. Turned z u) h.1 k) [ inl x ↦ x | inr x ↦ x ]
given_last s t u h k = absurd h

nudged_last : (s t u : Stage) → Nudged s t → Turned t u → ⊥
nudged_last (AtNudge n a) t u h k =
    elim (subst (λ z. Turned z u) h.1 k) [ inl x ↦ x | inr x ↦ x ]
nudged_last s t u h k = absurd h

turned_last : (s t u : Stage) → Turned s t → Turned t u → ⊥
turned_last s t u (inl h) k = given_last s t u h k
turned_last s t u (inr h) k = nudged_last s t u h k

stage_then : (s t u : Stage) → (t ≡ s) ⊎ Turned s t → (u ≡ t) ⊎ Turned t u → (u ≡ s) ⊎ Turned s u
stage_then s t u (inl e) (inl d) = inl (d ∙ e)
stage_then s t u (inl e) (inr k) = inr (subst (λ z. Turned z u) e k)
stage_then s t u (inr h) (inl d) = inr (subst (Turned s) (sym d) h)
stage_then s t u (inr h) (inr k) = absurd (turned_last s t u h k)

flight_then : (f g h : FlightRow) → SameFlight Turned f g → SameFlight Turned g h → SameFlight Turned f h
flight_then f g h a b =
    record { op = b.op ∙ a.op; message = b.message ∙ a.message; token = b.token ∙ a.token; stage = stage_then f.stage g.stage h.stage a.stage b.stage }

pub left_then : (f g h : Option FlightRow) → IsLeft Turned f g → IsLeft Turned g h → IsLeft Turned f h
left_then None None h a b = b
left_then None (Some g) h a b = absurd a
left_then (Some f) None h a b = absurd a
left_then (Some f) (Some g) None a b = b
left_then (Some f) (Some g) (Some h) a b = flight_then f g h a b

-- ---- the flights of a cell

is_other : (o k : Op) (f : FlightRow) → is_same_op k o ≡ false → is_flight k f ≡ true → is_flight o f ≡ false
is_other o k f ne e = grind (arith, nat_tests)

with_cons : (o k : Op) (t : Stage) (b : Bool) (x : FlightRow) (xs ys : List FlightRow) → is_same_op k o ≡ false → is_flight k x ≡ b →
    find (is_flight o) ys ≡ find (is_flight o) xs → find (is_flight o) (cond b (at_stage t x ∷ xs) (x ∷ ys)) ≡ find (is_flight o) (x ∷ xs)
with_cons o k t true x xs ys ne e ih = let no = is_other o k x ne e in rw no refl
with_cons o k t false x xs ys ne e ih = rw ih refl

with_other : (o k : Op) (t : Stage) (xs : List FlightRow) → is_same_op k o ≡ false →
    find (is_flight o) (with_first (is_flight k) (at_stage t) xs) ≡ find (is_flight o) xs
with_other o k t [] ne = refl
with_other o k t (x ∷ xs) ne = with_cons o k t (is_flight k x) x xs (with_first (is_flight k) (at_stage t) xs) ne refl (with_other o k t xs ne)

without_cons : (o k : Op) (b : Bool) (x : FlightRow) (xs ys : List FlightRow) → is_same_op k o ≡ false → is_flight k x ≡ b →
    find (is_flight o) ys ≡ find (is_flight o) xs → find (is_flight o) (cond b xs (x ∷ ys)) ≡ find (is_flight o) (x ∷ xs)
without_cons o k true x xs ys ne e ih = let no = is_other o k x ne e in rw no refl
without_cons o k false x xs ys ne e ih = rw ih refl

without_other : (o k : Op) (xs : List FlightRow) → is_same_op k o ≡ false →
    find (is_flight o) (without_first (is_flight k) xs) ≡ find (is_flight o) xs
without_other o k [] ne = refl
without_other o k (x ∷ xs) ne = without_cons o k (is_flight k x) x xs (without_first (is_flight k) xs) ne refl (without_other o k xs ne)

pub advanced_other : (o k : Op) (a : Advance) (fs : List FlightRow) → is_same_op k o ≡ false →
    find (is_flight o) (advanced a k fs) ≡ find (is_flight o) fs
advanced_other o k (Goes t) fs ne = with_other o k t fs ne
advanced_other o k (Ends n) fs ne = without_other o k fs ne
advanced_other o k (Out t) fs ne = refl
advanced_other o k Absent fs ne = refl

is_new : (o k : Op) (m : MessageValue) (t : Token) (s : Stage) → is_same_op k o ≡ false →
    is_flight o (record { op = k; message = m; token = t; stage = s }) ≡ false
is_new o k m t s ne = ne

last_other : (o : Op) (f : FlightRow) (fs : List FlightRow) → is_flight o f ≡ false → find (is_flight o) (fs ++ f ∷ []) ≡ find (is_flight o) fs
last_other o f [] e = rw e refl
last_other o f (x ∷ fs) e = rw (last_other o f fs e) refl

begun_to : (o k : Op) (t : Token) (m : MessageValue) (c : Cell) (p : Option (ℕ × ℕ)) (b : Bool) → is_same_op k o ≡ false →
    (m.ask.terms.ttl == 0) ≡ b → flight o (begin_to p k t m c).cell ≡ flight o c
begun_to o k t m c (Some p) b ne e = last_other o _ c.flights (is_new o k m t (AtDirect p.0 p.1) ne)
begun_to o k t m c None true ne e = rw e refl
begun_to o k t m c None false ne e = rw e (last_other o _ c.flights (is_new o k m t AtStore ne))

pub begun_other : (o k : Op) (t : Token) (m : MessageValue) (c : Cell) → is_same_op k o ≡ false → flight o (begin k t m c).cell ≡ flight o c
begun_other o k t m c ne = begun_to o k t m c (routed_place c.user) (m.ask.terms.ttl == 0) ne refl

same_op : (o k : Op) (x : FlightRow) → is_flight k x ≡ true → is_flight o x ≡ true → is_same_op k o ≡ true
same_op o k x e h = grind (arith, nat_tests)

-- the flight k turns, where k is o
turned_flight : (T : Stage → Stage → Type 0) (o k : Op) (t : Stage) (x : FlightRow) (b : Bool) (xs : List FlightRow) → is_flight k x ≡ true →
    is_flight o x ≡ b → (is_same_op k o ≡ true → T x.stage t) →
    IsLeft T (cond b (Some x) (find (is_flight o) xs)) (cond b (Some (at_stage t x)) (find (is_flight o) xs))
turned_flight T o k t x true xs e q h = record { op = refl; message = refl; token = refl; stage = inr (h (same_op o k x e q)) }
turned_flight T o k t x false xs e q h = is_left T (find (is_flight o) xs)

left_behind : (T : Stage → Stage → Type 0) (x : FlightRow) (b : Bool) (f g : Option FlightRow) → IsLeft T f g →
    IsLeft T (cond b (Some x) f) (cond b (Some x) g)
left_behind T x true f g h = same_flight T x
left_behind T x false f g h = h

turned_cons : (T : Stage → Stage → Type 0) (o k : Op) (t : Stage) (f x : FlightRow) (b : Bool) (xs ys : List FlightRow) → is_flight k x ≡ b →
    cond b (Some x) (find (is_flight k) xs) ≡ Some f → (is_same_op k o ≡ true → T f.stage t) →
    (find (is_flight k) xs ≡ Some f → IsLeft T (find (is_flight o) xs) (find (is_flight o) ys)) →
    IsLeft T (find (is_flight o) (x ∷ xs)) (find (is_flight o) (cond b (at_stage t x ∷ xs) (x ∷ ys)))
turned_cons T o k t f x true xs ys b_is e h ih =
    let same : x ≡ f = cc in
    turned_flight T o k t x (is_flight o x) xs b_is refl (λ q. subst (λ z. T z.stage t) (sym same) (h q))
turned_cons T o k t f x false xs ys b_is e h ih = left_behind T x (is_flight o x) (find (is_flight o) xs) (find (is_flight o) ys) (ih e)

turned_first : (T : Stage → Stage → Type 0) (o k : Op) (t : Stage) (f : FlightRow) (fs : List FlightRow) → find (is_flight k) fs ≡ Some f →
    (is_same_op k o ≡ true → T f.stage t) → IsLeft T (find (is_flight o) fs) (find (is_flight o) (with_first (is_flight k) (at_stage t) fs))
turned_first T o k t f [] e h = tt
turned_first T o k t f (x ∷ fs) e h =
    turned_cons T o k t f x (is_flight k x) fs (with_first (is_flight k) (at_stage t) fs) refl e h (λ q. turned_first T o k t f fs q h)

-- a step on the flight k
pub moved_left : (x : Step) (o k : Op) (fs gs : List FlightRow) → is_own o x ≡ false → Moved x k fs gs →
    IsLeft (TurnedBy o x) (find (is_flight o) fs) (find (is_flight o) gs)
moved_left x o k fs gs n (Stay e) = left_same (TurnedBy o x) (find (is_flight o) fs) (find (is_flight o) gs) (ap (find (is_flight o)) e)
moved_left x o k fs gs n (Advanced own a e) =
    left_same (TurnedBy o x) (find (is_flight o) fs) (find (is_flight o) gs) (ap (find (is_flight o)) e ∙ advanced_other o k a fs (sym (own o) ∙ n))
moved_left x o k fs gs n (Turn f t there turn e) =
    subst (λ l. IsLeft (TurnedBy o x) (find (is_flight o) fs) (find (is_flight o) l)) (sym e) (turned_first (TurnedBy o x) o k t f fs there (turn o))

-- ---- the cells of a world

left_first : (T : Stage → Stage → Type 0) (f g r : Option FlightRow) → IsLeft T f g → IsLeft T (first_of f r) (first_of g r)
left_first T None None r h = is_left T r
left_first T None (Some g) r h = absurd h
left_first T (Some f) None r h = absurd h
left_first T (Some f) (Some g) r h = h

left_second : (T : Stage → Stage → Type 0) (f r s : Option FlightRow) → IsLeft T r s → IsLeft T (first_of f r) (first_of f s)
left_second T None r s h = h
left_second T (Some f) r s h = same_flight T f

set_cons : (T : Stage → Stage → Type 0) (o : Op) (c v : Cell) (b : Bool) (d : ℕ × Cell) (es fs : List (ℕ × Cell)) (l : Option Cell) →
    cond b (Some d.1) l ≡ Some c → IsLeft T (flight o c) (flight o v) → (l ≡ Some c → IsLeft T (flight_among o es) (flight_among o fs)) →
    IsLeft T (flight_among o (d ∷ es)) (flight_among o (cond b ((d.0, v) ∷ es) (d ∷ fs)))
set_cons T o c v true d es fs l e h ih =
    let q : d.1 ≡ c = cc in
    left_first T (flight o d.1) (flight o v) (flight_among o es) (subst (λ y. IsLeft T (flight o y) (flight o v)) (sym q) h)
set_cons T o c v false d es fs l e h ih = left_second T (flight o d.1) (flight_among o es) (flight_among o fs) (ih e)

set_left : (T : Stage → Stage → Type 0) (o : Op) (n : ℕ) (c v : Cell) (es : List (ℕ × Cell)) → lookup (at n) es ≡ Some c →
    IsLeft T (flight o c) (flight o v) → IsLeft T (flight_among o es) (flight_among o (set_value (at n) es v))
set_left T o n c v [] e h = tt
set_left T o n c v (d ∷ es) e h = set_cons T o c v (at n d.0) d es (set_value (at n) es v) (lookup (at n) es) e h (λ q. set_left T o n c v es q h)

insert_cons : (o : Op) (n : ℕ) (v : Cell) (r : Ordering) (d : ℕ × Cell) (es fs : List (ℕ × Cell)) → flight o v ≡ None →
    cond (is_eq r) (Some d.1) (lookup (at n) es) ≡ None → (lookup (at n) es ≡ None → flight_among o fs ≡ flight_among o es) →
    flight_among o (match_ordering r ((n, v) ∷ d ∷ es) ((d.0, v) ∷ es) (d ∷ fs)) ≡ flight_among o (d ∷ es)
insert_cons o n v Less d es fs e h ih = rw e refl
insert_cons o n v Equal d es fs e h ih = cc
insert_cons o n v Greater d es fs e h ih = rw (ih h) refl

insert_same : (o : Op) (n : ℕ) (v : Cell) (es : List (ℕ × Cell)) → flight o v ≡ None → lookup (at n) es ≡ None →
    flight_among o (insert_entry nat_cmp es n v) ≡ flight_among o es
insert_same o n v [] e h = rw e refl
insert_same o n v (d ∷ es) e h = insert_cons o n v (nat_cmp n d.0) d es (insert_entry nat_cmp es n v) e h (insert_same o n v es e)

-- where c was there, v takes its place, and where none was, v comes in
put_left : (T : Stage → Stage → Type 0) (o : Op) (u : Uaid) (v : Cell) (es : List (ℕ × Cell)) (l : Option Cell) → lookup (at u.0) es ≡ l →
    IsLeft T (flight o (found_or_empty l u)) (flight o v) → IsLeft T (flight_among o es) (flight_among o (put_beside l u v es))
put_left T o u v es None e h =
    left_same T (flight_among o es) _ (insert_same o u.0 v es (left_absent T (flight o v) h) e)
put_left T o u v es (Some c) e h = set_left T o u.0 c v es e h

-- where nothing is there, no flight is
none_flying : (o : Op) (b : Bool) (fs : List FlightRow) → (b || not (length fs == 0)) ≡ false → find (is_flight o) fs ≡ None
none_flying o b [] e = refl
none_flying o true (f ∷ fs) e = cc
none_flying o false (f ∷ fs) e = grind (arith, nat_tests)

rem_cons : (o : Op) (c : Cell) (b : Bool) (d : ℕ × Cell) (es fs : List (ℕ × Cell)) (l : Option Cell) → cond b (Some d.1) l ≡ Some c →
    flight o c ≡ None → (l ≡ Some c → flight_among o fs ≡ flight_among o es) → flight_among o (cond b es (d ∷ fs)) ≡ flight_among o (d ∷ es)
rem_cons o c true d es fs l e n ih =
    let same : d.1 ≡ c = cc in
    let no : flight o d.1 ≡ None = ap (flight o) same ∙ n in
    rw no refl
rem_cons o c false d es fs l e n ih = rw (ih e) refl

rem_left : (o : Op) (n : ℕ) (c : Cell) (es : List (ℕ × Cell)) → lookup (at n) es ≡ Some c → flight o c ≡ None →
    flight_among o (remove_entry (at n) es) ≡ flight_among o es
rem_left o n c [] e k = refl
rem_left o n c (d ∷ es) e k =
    rem_cons o c (at n d.0) d es (remove_entry (at n) es) (lookup (at n) es) e k (λ q. rem_left o n c es q k)

gone_same : (T : Stage → Stage → Type 0) (o : Op) (u : Uaid) (v : Cell) (es : List (ℕ × Cell)) (l : Option Cell) → lookup (at u.0) es ≡ l →
    IsLeft T (flight o (found_or_empty l u)) (flight o v) → flight o v ≡ None → flight_among o (remove_entry (at u.0) es) ≡ flight_among o es
gone_same T o u v es None e h n = ap (flight_among o) (rem_same u.0 es e)
gone_same T o u v es (Some c) e h n = rem_left o u.0 c es e (left_gone T (flight o c) (subst (IsLeft T (flight o c)) n h))

cell_left : (T : Stage → Stage → Type 0) (o : Op) (u : Uaid) (v : Cell) (es : List (ℕ × Cell)) (l : Option Cell) (b : Bool) →
    lookup (at u.0) es ≡ l → is_there v ≡ b → IsLeft T (flight o (found_or_empty l u)) (flight o v) →
    IsLeft T (flight_among o es) (flight_among o (if b then put_beside l u v es else remove_entry (at u.0) es))
cell_left T o u v es l true e t h = put_left T o u v es l e h
cell_left T o u v es l false e t h =
    left_same T (flight_among o es) _ (gone_same T o u v es l e h (none_flying o (is_some v.user) v.flights t))

-- a step on the cell of u
pub with_cell_left : (T : Stage → Stage → Type 0) (o : Op) (u : Uaid) (v : Cell) (es : List (ℕ × Cell)) →
    IsLeft T (flight o (cell_at es u)) (flight o v) → IsLeft T (flight_among o es) (flight_among o (with_cell u v es))
with_cell_left T o u v es h = cell_left T o u v es (lookup (at u.0) es) (is_there v) refl refl h

-- a step on every cell
pub each_same : (o : Op) (f : Cell → Cell) (es : List (ℕ × Cell)) → ((c : Cell) → (f c).flights ≡ c.flights) →
    flight_among o (each f es) ≡ flight_among o es
each_same o f [] h = refl
each_same o f (e ∷ es) h = rw (h e.1, each_same o f es h) refl
