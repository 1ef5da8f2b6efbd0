-- A step on each row, as one more row is read.
use Rattle.std.proofs.Common.{◌≡◌, ℕ, ◌+◌, ◌<◌, zero, suc, ◌++◌, Bool, List, [], ◌∷◌, length, get_or, set, take, drop, refl, ap, ◌∙◌, arith}
use Rattle.std.proofs.lemmas.List.Edits.{map_over_more}
use Rattle.std.specs.Prelude.{map}
use Rattle.push_model.specs.declared.parts.Row.{Row}
use Rattle.push_model.specs.Cells.{unmarked_row}
use Rattle.message_rows.specs.RowStock.{marked_where}

-- one more row without its mark
pub unmarked_more : (xs ys : List Row) (i : ℕ) (x : Row) → i < length xs → ys ≡ map unmarked_row (take i xs) ++ drop i xs → x ≡ get_or ys i x →
    set ys i (unmarked_row x) ≡ map unmarked_row (take (i + 1) xs) ++ drop (i + 1) xs
unmarked_more xs ys i x lt e is = map_over_more unmarked_row xs ys i x lt e is

-- one more row that has been tested
pub marked_more : (p : Row → Bool) (xs ys : List Row) (i : ℕ) (x : Row) → i < length xs → ys ≡ map (marked_where p) (take i xs) ++ drop i xs → x ≡ get_or ys i x →
    set ys i (marked_where p x) ≡ map (marked_where p) (take (i + 1) xs) ++ drop (i + 1) xs
marked_more p xs ys i x lt e is = map_over_more (marked_where p) xs ys i x lt e is

-- one more row with its message as it was
pub same_messages : (rows : List Row) (i : ℕ) (x y : Row) → i < length rows → x ≡ get_or rows i x → y.message ≡ x.message →
    map (λ r. r.message) (set rows i y) ≡ map (λ r. r.message) rows
same_messages [] i x y lt e is = refl
same_messages (r ∷ rows) zero x y lt e is = ap (λ m. m ∷ map (λ r. r.message) rows) (is ∙ ap (λ r. r.message) e)
same_messages (r ∷ rows) (suc i) x y lt e is = ap (λ ms. r.message ∷ ms) (same_messages rows i x y (omega arith) e is)
