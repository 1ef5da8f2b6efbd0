-- What a clause says of a seat of a board.
use Rattle.std.specs.Prelude.{◌≡◌, ℕ, ◌%◌, ◌<◌, Bool, true, false, List, [], ◌∷◌, ◌++◌, length, Option, Some, None}
use Rattle.atomic_table.specs.declared.shared.Seat.{Seat}
use Rattle.atomic_table.specs.Seated.{TableId}
use Rattle.push_model.specs.declared.entry.Entry.{Entry}
use Rattle.push_model.specs.Histories.{world_after, IsLegal, AllProper}
use Rattle.turn_board.specs.declared.view.Home.{Home}
use Rattle.turn_board.specs.declared.view.Place.{Place}
use Rattle.turn_board.specs.declared.view.Place.TheVariants.{Free, Waits, Serves}
use Rattle.turn_board.specs.declared.view.View.{View}
use Rattle.turn_board.specs.Numbers.{word_size, has}
use Rattle.turn_board.specs.Views.{own_of, at_place, with_known}
use Rattle.turn_board.specs.Plays.{SeatState}

module _ {W S R : Type 0} where
  -- it is the same seat
  abbrev pub IsSameSeat : Seat (Option (Home W)) (View W S R) → Seat (Option (Home W)) (View W S R) → Type 0
  IsSameSeat old new = (new.table_id ≡ old.table_id) × (new.id ≡ old.id)

  -- a table with the words and the slot of a board, of which this is a seat
  abbrev pub IsSeatOf : TableId → Seat (Option (Home W)) (View W S R) → Type 0
  IsSeatOf z seat = (seat.table_id ≡ z) × (z.words ≡ 13) × (z.slots ≡ 1)

abbrev pub waited : Place → ℕ
waited (Waits k) = k
waited Free = 0
waited (Serves k) = 0

-- the seat waits with this ticket
abbrev pub IsWaiting : {W S R : Type 0} → ℕ → SeatState W S R → Type 0
IsWaiting ticket me = (me.0.place ≡ Waits (waited me.0.place)) × (waited me.0.place % word_size ≡ ticket) × (me.1 ≡ [])

module _ {W S R : Type 0} (run : W → S → W × R) (proper : ℕ → S → Bool) where
  -- it is the seat's turn, the whole history is known, which has no new entry of the seat's own, and this is what was at home
  pub record HasTurn (me : SeatState W S R) (home : Home W) (m : SeatState W S R) : Type 0 where
    pub between : List (Entry S R)
    pub ticket : ℕ
    pub foreign : own_of me.0.numbers between ≡ []
    pub after : m ≡ (at_place (with_known me.0 (me.0.seen ++ between)) (Serves ticket), (0, None) ∷ [])
    pub legal : (w : W) → me.0.first ≡ Some w → IsLegal run w (me.0.seen ++ between)
    pub world : (w : W) → me.0.first ≡ Some w → home.object ≡ world_after run w (me.0.seen ++ between)
    pub entries : home.entries ≡ length (me.0.seen ++ between)
    pub each_proper : AllProper proper (me.0.seen ++ between)
    pub whole : length me.0.spare ≡ 0 → 0 < me.0.counted → me.0.counted ≡ length me.0.numbers → between ≡ []

  -- the object is with the seat, in its turn, where the history leaves it
  pub record Holding (me : SeatState W S R) (home : Home W) : Type 0 where
    pub ticket : ℕ
    pub origin : W
    pub serves : me.0.place ≡ Serves ticket
    pub out : me.1 ≡ (0, None) ∷ []
    pub first : me.0.first ≡ Some origin
    pub there : home.object ≡ world_after run origin me.0.known
    pub entries : home.entries ≡ length me.0.known

abbrev pub is_there : {W : Type 0} → Option W → Bool
is_there (Some w) = true
is_there None = false

abbrev pub is_free : Place → Bool
is_free Free = true
is_free (Waits k) = false
is_free (Serves k) = false

-- a seat that may make a call: it has this number, and no ticket
pub record IsResting {W S R : Type 0} (number : ℕ) (me : SeatState W S R) : Type 0 where
  pub first : is_there me.0.first ≡ true
  pub free : is_free me.0.place ≡ true
  pub none_out : length me.1 ≡ 0
  pub numbered : has me.0.numbers number ≡ true
  pub some_number : 0 < length me.0.numbers
  pub none_spare : length me.0.spare ≡ 0
