-- What a seat of a board knows, and how its steps change that.
use Rattle.std.specs.Prelude.{◌≡◌, ℕ, zero, suc, ◌+◌, List, [], ◌∷◌, ◌++◌, length, Some, None, slice_index_or}
use Rattle.push_model.specs.declared.entry.Entry.{Entry}
use Rattle.push_model.specs.declared.mail.MailEntry.{MailEntry}
use Rattle.push_model.specs.DeskViews.{mail_by}
use Rattle.turn_board.specs.declared.view.Place.{Place}
use Rattle.turn_board.specs.declared.view.Place.TheVariants.{Free, Waits, Serves}
use Rattle.turn_board.specs.declared.view.View.{View}
use Rattle.turn_board.specs.declared.view.Part.{Part}
use Rattle.turn_board.specs.Numbers.{own_by, GrewByOthers, longer}

abbrev pub entry_by : {S R : Type 0} → Entry S R → ℕ
entry_by e = e.by

-- the entries that are signed by one of these numbers
abbrev pub own_of : {S R : Type 0} → List ℕ → List (Entry S R) → List (Entry S R)
own_of ns es = own_by entry_by ns es

-- what is known of the slot's mail
abbrev pub mail_at : List (List MailEntry) → ℕ → List MailEntry
mail_at mail slot = slice_index_or mail slot []

module _ {A : Type 0} where
  -- the longer one at each place
  abbrev pub longer_each : List (List A) → List (List A) → List (List A)
  longer_each [] ys = ys
  longer_each (x ∷ xs) [] = x ∷ xs
  longer_each (x ∷ xs) (y ∷ ys) = longer x y ∷ longer_each xs ys

  -- the lists, with another in this place
  abbrev pub put_list : List (List A) → ℕ → List A → List (List A)
  put_list [] zero l = l ∷ []
  put_list [] (suc k) l = [] ∷ put_list [] k l
  put_list (x ∷ xs) zero l = l ∷ xs
  put_list (x ∷ xs) (suc k) l = x ∷ put_list xs k l

-- the tickets of one who stands there
abbrev pub tickets : Place → List ℕ
tickets Free = []
tickets (Waits k) = k ∷ []
tickets (Serves k) = k ∷ []

-- the seen list and the mail begin with those of the part, and nothing after these is of its numbers
abbrev pub IsPart : {S R : Type 0} → List (Entry S R) → List (List MailEntry) → Part S R → Type 0
IsPart seen mail p = GrewByOthers entry_by p.numbers p.seen seen × ((slot : ℕ) → GrewByOthers mail_by p.numbers (mail_at p.mail slot) (mail_at mail slot))

abbrev pub AllParts : {S R : Type 0} → List (Entry S R) → List (List MailEntry) → List (Part S R) → Type 0
AllParts seen mail [] = Unit {0}
AllParts seen mail (p ∷ ps) = IsPart seen mail p × AllParts seen mail ps

module _ {W S R : Type 0} where
  -- the first seat: it has the number 0
  abbrev pub opening_view : W → View W S R
  opening_view w = record { first = Some w; seen = []; known = []; numbers = 0 ∷ []; spare = []; place = Free; counts = 0; counted = 0; parts = []; mail = [] }

  -- a seat that was joined into another
  abbrev pub spent_view : View W S R
  spent_view = record { first = None; seen = []; known = []; numbers = []; spare = []; place = Free; counts = 0; counted = 0; parts = []; mail = [] }

  abbrev pub at_place : View W S R → Place → View W S R
  at_place v p = record v { place = p }

  -- in its turn: this is the whole history
  abbrev pub with_known : View W S R → List (Entry S R) → View W S R
  with_known v es = record v { known = es }

  -- the whole history, and these entries, are seen
  abbrev pub with_entries : View W S R → List (Entry S R) → View W S R
  with_entries v es = record v { seen = v.known ++ es; known = v.known ++ es; parts = [] }

  -- a number was drawn for a new seat
  abbrev pub with_spare : View W S R → ℕ → View W S R
  with_spare v n = record v { spare = n ∷ []; counted = 0 }

  -- so many numbers were drawn
  abbrev pub with_count : View W S R → ℕ → View W S R
  with_count v n = record v { counts = v.counts + 1; counted = n }

  -- this is seen of the slot's mail
  abbrev pub with_mail : View W S R → ℕ → List MailEntry → View W S R
  with_mail v slot ls = record v { mail = put_list v.mail slot ls; parts = [] }

  abbrev pub without_parts : View W S R → View W S R
  without_parts v = record v { parts = [] }

  -- a split: the seat keeps its own numbers, and the new one has seen as much and has the number that was drawn for it
  abbrev pub kept_half : View W S R → View W S R
  kept_half v = record v { spare = []; counted = 0 }

  abbrev pub given_half : View W S R → View W S R
  given_half v = record v { known = []; numbers = v.spare; spare = []; place = Free; counts = 0; counted = 0; parts = [] }

  abbrev pub part_of : View W S R → Part S R
  part_of v = record { seen = v.seen; numbers = v.numbers; mail = v.mail }

  -- a join: the longer of what the two have seen, and the numbers of both
  abbrev pub joined : View W S R → View W S R → View W S R
  joined v w = record v { seen = longer v.seen w.seen; numbers = v.numbers ++ w.numbers; spare = []; counted = 0; parts = part_of v ∷ part_of w ∷ []; mail = longer_each v.mail w.mail }

  -- nothing that was seen, also of mail, is signed by the number
  abbrev pub SignsNothing : ℕ → View W S R → Type 0
  SignsNothing n v = (own_of (n ∷ []) v.seen ≡ []) × ((slot : ℕ) → own_by mail_by (n ∷ []) (mail_at v.mail slot) ≡ [])

  abbrev pub all_numbers : View W S R → List ℕ
  all_numbers v = v.spare ++ v.numbers

  abbrev pub ticket_of : View W S R → List ℕ
  ticket_of v = tickets v.place

  abbrev pub tickets_out : View W S R → ℕ
  tickets_out v = length (ticket_of v)

  abbrev pub number_count : View W S R → ℕ
  number_count v = length (all_numbers v)
