-- Places of a list, and lists that are gone over one by one.
use Rattle.std.proofs.Common.{◌≡◌, ◌<◌, ◌≤◌, ◌+◌, ◌==◌, ◌||◌, ◌&&◌, ℕ, zero, suc, Bool, true, false, List, [], ◌∷◌, ◌++◌, length, get_or, set, take, drop, map, refl, ap, sym, ◌∙◌, append_assoc, arith, Option, Some, None}
use Rattle.std.specs.Prelude.{slice_get}
use Rattle.std.proofs.lemmas.Nat.Bits.{bit_at-zero}
use Rattle.std.proofs.lemmas.List.{map_more, drop_more, length-map, length-take-le, get_or_at, set_at}
use Rattle.push_model.specs.SessionKey.{SessionKey}
use Rattle.session_drive.specs.Shards.{shard_of}
use Rattle.node_sessions.specs.Seats.{SeatView, has_bit, is_named, told}

-- what stands at a place within a list
pub seat_at : {A : Type 0} → (xs : List A) (i : ℕ) (x : A) → i < length xs → x ≡ get_or xs i x → slice_get xs i ≡ Some x
seat_at [] i x h e = absurd (omega arith)
seat_at (y ∷ ys) zero x h e = ap Some (sym e)
seat_at (y ∷ ys) (suc i) x h e = seat_at ys i x (omega arith) e

-- the first i are changed, and the others aren't
pub one_told : {A : Type 0} → (f : A → A) (xs ys : List A) (i : ℕ) (x y : A) → i < length xs → ys ≡ map f (take i xs) ++ drop i xs → y ≡ f (get_or ys i x) → set ys i y ≡ map f (take (i + 1) xs) ++ drop (i + 1) xs
one_told f xs ys i x y h e is =
    let low : i ≤ length xs = omega arith in
    let long : length (map f (take i xs)) ≡ i = length-map (take i xs) f ∙ length-take-le i xs low in
    let split : ys ≡ map f (take i xs) ++ (get_or xs i x ∷ drop (i + 1) xs) = e ∙ ap (λ l. map f (take i xs) ++ l) (drop_more xs i x h) in
    let here : get_or ys i x ≡ get_or xs i x = ap (λ l. get_or l i x) split ∙ get_or_at (map f (take i xs)) (get_or xs i x) (drop (i + 1) xs) x i long in
    let put : set ys i y ≡ map f (take i xs) ++ (y ∷ drop (i + 1) xs) =
    ap (λ l. set l i y) split ∙ set_at (map f (take i xs)) (get_or xs i x) (drop (i + 1) xs) y i long in
    let more : map f (take (i + 1) xs) ++ drop (i + 1) xs ≡ map f (take i xs) ++ (y ∷ drop (i + 1) xs) =
    ap (λ l. l ++ drop (i + 1) xs) (map_more f xs i x h ∙ ap (λ z. map f (take i xs) ++ z ∷ []) (ap f (sym here) ∙ sym is))
    ∙ append_assoc (map f (take i xs)) (y ∷ []) (drop (i + 1) xs) in
    put ∙ sym more

-- ---- no bits name nobody

or_false : (b : Bool) → (b || false) ≡ b
or_false true = refl
or_false false = refl

and_false : (b : Bool) → (b && false) ≡ false
and_false true = refl
and_false false = refl

none_set : (bit : ℕ) → has_bit 0 bit ≡ false
none_set bit = ap (λ m. m == 1) (bit_at-zero bit)

pub none_named : (size k : ℕ) (s : Option SessionKey) → is_named size k 0 s ≡ false
none_named size k None = refl
none_named size k (Some s) = ap (λ b. (shard_of s.uaid size == k) && b) (none_set _) ∙ and_false (shard_of s.uaid size == k)

none_told : (size k : ℕ) (seat : SeatView) → told size k 0 seat ≡ seat
none_told size k seat =
    ap (λ b. record { marks = seat.marks; live = record { s = seat.live.s; due = seat.live.due || b } }) (none_named size k seat.live.s)
    ∙ ap (λ b. record { marks = seat.marks; live = record { s = seat.live.s; due = b } }) (or_false seat.live.due)

pub told_nothing : (size k : ℕ) (xs : List SeatView) → map (told size k 0) xs ≡ xs
told_nothing size k [] = refl
told_nothing size k (x ∷ xs) = ap (λ y. y ∷ map (told size k 0) xs) (none_told size k x) ∙ ap (λ ys. x ∷ ys) (told_nothing size k xs)
