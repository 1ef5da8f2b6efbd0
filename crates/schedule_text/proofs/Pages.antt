-- A page, message by message.
use Rattle.std.proofs.Common.{◌≡◌, ℕ, suc, ◌+◌, List, ◌++◌, drop, Some, append_assoc, add-one, drop-cons}
use Rattle.std.specs.Prelude.{slice_get}
use Rattle.std.specs.List.{flat_map}
use Rattle.std.proofs.lemmas.Option.{slice_get_within, get_or_from_slice_get}

-- one message more is printed
pub printed_more : {X : Type 0} (f : X → List ℕ) (xs : List X) (i : ℕ) (x : X) (before after : List ℕ) → slice_get xs i ≡ Some x → after ≡ before ++ f x
    → after ++ flat_map f (drop (i + 1) xs) ≡ before ++ flat_map f (drop i xs)
printed_more f xs i x before after h is =
    let front = drop-cons xs i x (slice_get_within xs i x h) in
    let same = get_or_from_slice_get xs i x x h in
    rw (front, same, is, add-one) (append_assoc before (f x) (flat_map f (drop (suc i) xs)))
