-- The first ten of the messages that aren't expired, as one more message is read.
use Rattle.std.proofs.Common.{◌≡◌, ℕ, ◌+◌, ◌<◌, ◌≤◌, Bool, true, false, nat_lt, List, [], ◌∷◌, ◌++◌, length, get_or, take, drop, refl, ◌∙◌, sym, arith}
use Rattle.std.proofs.lemmas.List.{append-nil, take_more, take-append-le, take_all, length-take, length_push, drop_min}
use Rattle.std.proofs.lemmas.List.Elements.{filter-append}
use Rattle.std.proofs.lemmas.Bool.{ltb-true, ltb-false}
use Rattle.push_model.specs.MessageValue.{MessageValue}
use Rattle.push_model.specs.Messages.{is_expired, unexpired}
use Rattle.session_core.specs.Pages.{page_with}

-- what is taken again, with more behind it
take_again : {A : Type 0} (n : ℕ) (xs ys : List A) (long : Bool) → nat_lt n (length xs) ≡ long → take n (take n xs ++ ys) ≡ take n (xs ++ ys)
take_again n xs ys true e =
    let le : n ≤ length xs = omega (arith, ltb-true _ _ e) in
    rw (take-append-le n (take n xs) ys (omega (arith, length-take n xs)), take-append-le n xs ys le) (take_all n (take n xs) (omega (arith, length-take n xs)))
take_again n xs ys false e = rw (take_all n xs (omega (arith, ltb-false _ _ e))) refl

-- a message is added to a page of at most ten
added : (late room : Bool) (moment : ℕ) (m : MessageValue) (page : List MessageValue) → is_expired moment m ≡ late → nat_lt (length page) 10 ≡ room → length page ≤ 10 → page_with moment m page ≡ take 10 (page ++ unexpired moment (m ∷ []))
added false true moment m page e r le = rw (e, r) (sym (take_all 10 (page ++ m ∷ []) (omega (arith, ltb-true _ _ r, length_push page m))))
added true true moment m page e r le = rw (e, r, append-nil page) (sym (take_all 10 page le))
added late false moment m page e r le = rw r (sym (take-append-le 10 page _ (omega (arith, ltb-false _ _ r)) ∙ take_all 10 page le))

pub page_more : (moment : ℕ) (ms : List MessageValue) (i : ℕ) (m : MessageValue) (page : List MessageValue) → i < length ms → m ≡ get_or ms i m → page ≡ take 10 (unexpired moment (take i ms)) → page_with moment m page ≡ take 10 (unexpired moment (take (i + 1) ms))
page_more moment ms i m page lt e is =
    let le : length page ≤ 10 = rw is (omega (arith, length-take 10 (unexpired moment (take i ms)))) in
    let more : unexpired moment (take (i + 1) ms) ≡ unexpired moment (take i ms) ++ unexpired moment (m ∷ []) = rw (take_more ms i m lt, ← e) (filter-append _ (take i ms) (m ∷ [])) in
    let again = take_again 10 (unexpired moment (take i ms)) (unexpired moment (m ∷ [])) _ refl in
    added _ _ moment m page refl refl le ∙ rw (more, is) again

-- what is left behind a page
pub rest_of_page : {A : Type 0} (u page : List A) → page ≡ take 10 u → drop (length page) u ≡ drop 10 u
rest_of_page u page e = rw (e, length-take 10 u) (drop_min 10 u)

-- the same, where it was counted
pub rest_behind : {A : Type 0} (u page : List A) (n : ℕ) → page ≡ take 10 u → n ≡ length page → drop n u ≡ drop 10 u
rest_behind u page n e counted = rw counted (rest_of_page u page e)
