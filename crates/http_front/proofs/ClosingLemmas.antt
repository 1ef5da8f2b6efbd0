-- The members of a list with commas.
use Rattle.std.proofs.Common.{◌≡◌, ℕ, ◌+◌, ◌-◌, ◌<◌, ◌||◌, ◌∙◌, ap, sym, Bool, true, false, List, [], ◌∷◌, length, take, drop, get_or, refl, arith, zero, suc}
use Rattle.std.specs.Prelude.{Some, slice_get}
use Rattle.std.specs.List.{list_any, onto_first, position_or_len, slice_split}
use Rattle.std.proofs.lemmas.Bool.Decides.{nat_tests}
use Rattle.std.proofs.lemmas.List.Splits.{slice_split_first, slice_split-cons_no}
use Rattle.std.proofs.lemmas.List.{take_all, length-drop}
use Rattle.std.proofs.lemmas.List.Folds.{list_any_more}
use Rattle.std.proofs.lemmas.List.Sums.{position_or_len_is}
use Rattle.std.proofs.lemmas.Option.{get_or_from_slice_get, slice_get_within}
use Rattle.http_wire.specs.Lines.{Line}
use Rattle.http_front.specs.Connections.{is_close_line, is_comma}

apart : (b : ℕ) → (b ≡ 44 → ⊥) → is_comma b ≡ false
apart b h = grind (arith, nat_tests, h)

-- the first comma ends the first member
pub cut_at : (list : List ℕ) (i : ℕ) → i < length list → ((k : ℕ) → k < i → get_or list k 0 ≡ 44 → ⊥) → get_or list i 0 ≡ 44 →
    slice_split is_comma list ≡ take i list ∷ slice_split is_comma (take (length list - (i + 1)) (drop (i + 1) list))
cut_at list i inside before there =
    let first : position_or_len is_comma list ≡ i = position_or_len_is is_comma list i 0 (omega (arith, inside)) (λ k h. apart (get_or list k 0) (before k h)) (λ h. rw there refl) in
    let behind : take (length list - (i + 1)) (drop (i + 1) list) ≡ drop (i + 1) list = take_all (length list - (i + 1)) (drop (i + 1) list) (omega (arith, length-drop (i + 1) list)) in
    slice_split_first is_comma list 0 (rw first inside) ∙ (ap (λ (n : ℕ). take n list ∷ slice_split is_comma (drop (n + 1) list)) first ∙ ap (λ (l : List ℕ). take i list ∷ slice_split is_comma l) (sym behind))

-- where there is none, the list is one member
pub uncut : (list : List ℕ) → ((k : ℕ) → k < length list → get_or list k 0 ≡ 44 → ⊥) → slice_split is_comma list ≡ list ∷ []
uncut [] none = refl
uncut (b ∷ list) none =
    slice_split-cons_no is_comma b list (apart b (none 0 (omega arith)))
    ∙ ap (onto_first b) (uncut list (λ k h. none (suc k) (omega (arith, h))))

-- ---- lines

any_or : (x a b : Bool) → (a ≡ true → b ≡ true) → (x || a) ≡ true → (x || b) ≡ true
any_or true a b f h = refl
any_or false a b f h = f h

any_front : {A : Type 0} → (p : A → Bool) (n : ℕ) (xs : List A) → list_any p (take n xs) ≡ true → list_any p xs ≡ true
any_front p zero xs h = let odd : false ≡ true = h in cc
any_front p (suc n) [] h = h
any_front p (suc n) (x ∷ xs) h = any_or (p x) (list_any p (take n xs)) (list_any p xs) (any_front p n xs) h

-- one line more was looked at
pub line_more : (lines : List Line) (i : ℕ) (l : Line) (b : Bool) → slice_get lines i ≡ Some l → b ≡ is_close_line l → list_any is_close_line (take i lines) ≡ false →
    list_any is_close_line (take (i + 1) lines) ≡ b
line_more lines i l b at e none =
    list_any_more is_close_line lines i l (slice_get_within lines i l at)
    ∙ (ap (λ q. q || is_close_line (get_or lines i l)) none ∙ (ap is_close_line (get_or_from_slice_get lines i l l at) ∙ sym e))

pub line_closes : (lines : List Line) (i : ℕ) (l : Line) (b : Bool) → slice_get lines i ≡ Some l → b ≡ is_close_line l → b ≡ true → list_any is_close_line (take i lines) ≡ false →
    true ≡ list_any is_close_line lines
line_closes lines i l b at e is none = sym (any_front is_close_line (i + 1) lines (line_more lines i l b at e none ∙ is))
