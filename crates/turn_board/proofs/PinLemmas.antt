-- Small laws of lists that grew, and of mail lists.
use Rattle.std.proofs.Common.{◌≡◌, ℕ, true, List, [], ◌∷◌, ◌++◌, length, take, refl, ap, ◌∙◌, append-nil, length-append, arith}
use Rattle.push_model.specs.declared.mail.MailChange.{MailChange}
use Rattle.push_model.specs.declared.mail.MailChange.TheVariants.{Post, Taken}
use Rattle.push_model.specs.declared.mail.MailEntry.{MailEntry}
use Rattle.push_model.specs.DeskViews.{mail_by}
use Rattle.push_model.specs.MailWords.{mail_entry, out}
use Rattle.turn_board.specs.Numbers.{has, own_by, GrewByOthers}
use Rattle.turn_board.specs.Views.{mail_at}
use Rattle.turn_board.specs.Passes.{SlotEndsWith}
use Rattle.turn_board.proofs.Rows.{own_by-append, own_by-mine}

take_front : {A : Type 0} → (xs ys : List A) → take (length xs) (xs ++ ys) ≡ xs
take_front [] ys = refl
take_front (x ∷ xs) ys = ap (λ l. x ∷ l) (take_front xs ys)

module _ {A : Type 0} (by : A → ℕ) (ns : List ℕ) (xs ys : List A) (h : GrewByOthers by ns xs ys) where
  pub front_of : take (length xs) ys ≡ xs
  front_of = ap (take (length xs)) h.1 ∙ take_front xs h.0

  pub own_grown : own_by by ns ys ≡ own_by by ns xs
  own_grown = ap (own_by by ns) h.1 ∙ own_by-append by ns xs h.0 ∙ ap (λ l. own_by by ns xs ++ l) h.2 ∙ append-nil (own_by by ns xs)

pub one_added : (slot number : ℕ) (c : MailChange) (numbers : List ℕ) (old new : List (List MailEntry)) → has numbers number ≡ true → SlotEndsWith slot c number numbers old new →
    own_by mail_by numbers (mail_at new slot) ≡ own_by mail_by numbers (mail_at old slot) ++ mail_entry number c ∷ []
one_added slot number c numbers old new signs h =
    let front : List MailEntry = mail_at old slot in
    let last : List MailEntry = mail_entry number c ∷ [] in
    let own : own_by mail_by numbers (front ++ h.between) ≡ own_by mail_by numbers front = own_grown mail_by numbers front (front ++ h.between) (h.between, refl, h.foreign) in
    ap (own_by mail_by numbers) h.mail ∙ own_by-append mail_by numbers (front ++ h.between) last ∙ (λ i. own i ++ own_by-mine mail_by numbers (mail_entry number c) signs i)

-- where a list of one and two more is a list of one and one more, the two are one
none_between : {A : Type 0} → (x y z : A) (zs : List A) → x ∷ y ∷ [] ≡ (x ∷ zs) ++ z ∷ [] → zs ≡ []
none_between x y z [] e = refl
none_between x y z (w ∷ ws) e = absurd (let l : length (x ∷ y ∷ []) ≡ length ((x ∷ w ∷ ws) ++ z ∷ []) = ap length e in omega (arith, length-append ws (z ∷ [])))

none_before : {A : Type 0} → (y z : A) (zs : List A) → y ∷ [] ≡ zs ++ z ∷ [] → zs ≡ []
none_before y z [] e = refl
none_before y z (w ∷ ws) e = absurd (let l : length (y ∷ []) ≡ length ((w ∷ ws) ++ z ∷ []) = ap length e in omega (arith, length-append ws (z ∷ [])))

-- bits are out, so it isn't quiet
pub not_quiet : ¬ SlotEndsWith 0 (Taken 0) 1 (1 ∷ []) ((mail_entry 1 (Post 4) ∷ []) ∷ []) ((mail_entry 1 (Post 4) ∷ mail_entry 1 (Taken 0) ∷ []) ∷ [])
not_quiet h =
    let first : MailEntry = mail_entry 1 (Post 4) in
    let taken : MailEntry = mail_entry 1 (Taken 0) in
    let none : h.between ≡ [] = none_between first taken taken h.between h.mail in
    let found : 0 ≡ 4 = h.found ∙ ap (λ (l : List MailEntry). out (first ∷ l)) none in omega arith

-- no bits are out, so none are taken
pub not_invented : ¬ SlotEndsWith 0 (Taken 4) 1 (1 ∷ []) [] ((mail_entry 1 (Taken 4) ∷ []) ∷ [])
not_invented h =
    let taken : MailEntry = mail_entry 1 (Taken 4) in
    let none : h.between ≡ [] = none_before taken taken h.between h.mail in
    let found : 4 ≡ 0 = h.found ∙ ap out none in omega arith
