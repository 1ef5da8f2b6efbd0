-- The first ten rows that are to be sent next, as one more row is read.
use Rattle.std.proofs.Common.{◌≡◌, ℕ, ◌+◌, ◌<◌, ◌≤◌, Bool, true, false, nat_lt, List, [], ◌∷◌, ◌++◌, length, get_or, take, refl, ap, ◌∙◌, sym, arith}
use Rattle.std.proofs.lemmas.List.{append-nil, map-append, take_more, take-append-le, take_all, length-take, length_push}
use Rattle.std.proofs.lemmas.List.Elements.{filter-append}
use Rattle.std.proofs.lemmas.Bool.{ltb-true, ltb-false}
use Rattle.std.specs.Prelude.{map}
use Rattle.push_model.specs.declared.ids.ChannelId.{ChannelId}
use Rattle.push_model.specs.declared.ids.MsgId.{MsgId}
use Rattle.push_model.specs.declared.parts.Row.{Row}
use Rattle.push_model.specs.MessageValue.{MessageValue}
use Rattle.push_model.specs.Rows.{row_page, next_rows, is_next}
use Rattle.message_rows.specs.Pages.{page_with}

-- what is taken again, with more behind it
take_again : {A : Type 0} (n : ℕ) (xs ys : List A) (long : Bool) → nat_lt n (length xs) ≡ long → take n (take n xs ++ ys) ≡ take n (xs ++ ys)
take_again n xs ys true e =
    let le : n ≤ length xs = omega (arith, ltb-true _ _ e) in
    rw (take-append-le n (take n xs) ys (omega (arith, length-take n xs)), take-append-le n xs ys le) (take_all n (take n xs) (omega (arith, length-take n xs)))
take_again n xs ys false e = rw (take_all n xs (omega (arith, ltb-false _ _ e))) refl

-- the messages of the rows that are to be sent next
abbrev next_messages : Bool → List (ChannelId × MsgId) → List Row → List MessageValue
next_messages topic sent rows = map (λ r. r.message) (next_rows topic sent rows)

-- a row's message is added to a page of at most ten
added : (wanted room topic : Bool) (sent : List (ChannelId × MsgId)) (r : Row) (page : List MessageValue) → is_next topic sent r ≡ wanted → nat_lt (length page) 10 ≡ room → length page ≤ 10 → page_with topic sent r page ≡ take 10 (page ++ next_messages topic sent (r ∷ []))
added true true topic sent r page e room le = rw (e, room) (sym (take_all 10 (page ++ r.message ∷ []) (omega (arith, ltb-true _ _ room, length_push page r.message))))
added false true topic sent r page e room le = rw (e, room, append-nil page) (sym (take_all 10 page le))
added wanted false topic sent r page e room le = rw room (sym (take-append-le 10 page _ (omega (arith, ltb-false _ _ room)) ∙ take_all 10 page le))

pub page_more : (topic : Bool) (sent : List (ChannelId × MsgId)) (rs : List Row) (i : ℕ) (r : Row) (page : List MessageValue) → i < length rs → r ≡ get_or rs i r → page ≡ row_page topic sent (take i rs) → page_with topic sent r page ≡ row_page topic sent (take (i + 1) rs)
page_more topic sent rs i r page lt e is =
    let le : length page ≤ 10 = rw is (omega (arith, length-take 10 (next_messages topic sent (take i rs)))) in
    let passed : next_rows topic sent (take (i + 1) rs) ≡ next_rows topic sent (take i rs) ++ next_rows topic sent (r ∷ []) = rw (take_more rs i r lt, ← e) (filter-append _ (take i rs) (r ∷ [])) in
    let more : next_messages topic sent (take (i + 1) rs) ≡ next_messages topic sent (take i rs) ++ next_messages topic sent (r ∷ []) = ap (map (λ s. s.message)) passed ∙ map-append _ (next_rows topic sent (take i rs)) (next_rows topic sent (r ∷ [])) in
    let again = take_again 10 (next_messages topic sent (take i rs)) (next_messages topic sent (r ∷ [])) _ refl in
    added _ _ topic sent r page refl refl le ∙ rw (more, is) again
