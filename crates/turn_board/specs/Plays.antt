-- What each step on a board tells the seat that makes it.
use Rattle.std.specs.Prelude.{◌≡◌, ℕ, ◌%◌, ◌==◌, ◌<◌, ◌≤◌, ◌-◌, Bool, false, List, [], ◌∷◌, ◌++◌, length, Option, Some, MatchBool}
use Rattle.atomic_table.specs.Table.{Me, Step, rest}
use Rattle.push_model.specs.declared.entry.Entry.{Entry}
use Rattle.push_model.specs.Histories.{world_after, IsLegal, AllProper}
use Rattle.push_model.specs.declared.mail.MailEntry.{MailEntry}
use Rattle.push_model.specs.MailWords.{out, IsLegalMail}
use Rattle.turn_board.specs.declared.view.Home.{Home}
use Rattle.turn_board.specs.declared.view.Place.{Place}
use Rattle.turn_board.specs.declared.view.Place.TheVariants.{Free, Waits, Serves}
use Rattle.turn_board.specs.declared.view.View.{View}
use Rattle.turn_board.specs.Numbers.{word_size, most_seats, has, own_by}
use Rattle.push_model.specs.DeskViews.{mail_by}
use Rattle.turn_board.specs.Views.{own_of, mail_at, AllParts, number_count, at_place, with_known, with_entries, with_spare, with_count, with_mail, without_parts, SignsNothing}

-- what a seat knows, and the slots that are out with it
abbrev pub SeatState : Type 0 → Type 0 → Type 0 → Type 0
SeatState W S R = Me (Option (Home W)) (View W S R)

-- what a seat has seen is a legal history of proper entries from the world in which the board began, and legal mail
pub record IsSoundSeat {W S R : Type 0} (run : W → S → W × R) (proper : ℕ → S → Bool) (me : SeatState W S R) : Type 0 where
  pub legal : (w : W) → me.0.first ≡ Some w → IsLegal run w me.0.seen
  pub each_proper : AllProper proper me.0.seen
  pub mail : (slot : ℕ) → IsLegalMail (mail_at me.0.mail slot)

-- all that was done to the slot's mail is seen, of which nothing new is signed by the seat's numbers, and then this; these bits were out before it
abbrev pub HasWritten : {W S R : Type 0} → ℕ → MailEntry → ℕ → SeatState W S R → SeatState W S R → Type 0
HasWritten slot l found me m = (between : List MailEntry) × (own_by mail_by me.0.numbers between ≡ [])
    × (m ≡ (with_mail me.0 slot ((mail_at me.0.mail slot ++ between) ++ l ∷ []), me.1))
    × (found ≡ out (mail_at me.0.mail slot ++ between)) × IsLegalMail ((mail_at me.0.mail slot ++ between) ++ l ∷ [])

module _ {W S R : Type 0} where
  -- a ticket is drawn
  abbrev pub Draws : Step (Option (Home W)) → SeatState W S R → ℕ → SeatState W S R → Type 0
  Draws st me found m = (k : ℕ) × (k % word_size ≡ found) × (m ≡ (at_place me.0 (Waits k), me.1))

  -- the entries are added to the history
  abbrev pub AddsEntries : List (Entry S R) → Step (Option (Home W)) → SeatState W S R → ℕ → SeatState W S R → Type 0
  AddsEntries es st me found m = m ≡ (with_entries me.0 es, me.1)

  -- the turn ends, and the object is at home
  abbrev pub Ends : Step (Option (Home W)) → SeatState W S R → ℕ → SeatState W S R → Type 0
  Ends st me found m = m ≡ (at_place me.0 Free, rest me.1)

  -- nothing is told, and nothing changes
  abbrev pub Stays : Step (Option (Home W)) → SeatState W S R → ℕ → SeatState W S R → Type 0
  Stays st me found m = m ≡ me

  -- where the number found is the one expected, it is drawn, and nothing seen is signed by it
  abbrev pub DrawsNumber : Step (Option (Home W)) → SeatState W S R → ℕ → SeatState W S R → Type 0
  DrawsNumber st me found m = MatchBool (found == st.first) ((m ≡ (with_spare me.0 found, me.1)) × SignsNothing found me.0 × (has me.0.numbers found ≡ false)) (m ≡ me)

  -- so many numbers were drawn
  abbrev pub Counts : Step (Option (Home W)) → SeatState W S R → ℕ → SeatState W S R → Type 0
  Counts st me found m = (m ≡ (with_count me.0 found, me.1)) × (number_count me.0 ≤ found)

  -- something is written to a slot's mail list. The words of mail begin with the word 5
  abbrev pub Writes : (ℕ → MailEntry) → Step (Option (Home W)) → SeatState W S R → ℕ → SeatState W S R → Type 0
  Writes written st me found m = HasWritten (st.word - 5) (written found) found me m

module _ {W S R : Type 0} (run : W → S → W × R) (proper : ℕ → S → Bool) where
  -- the turn begins: the history so far is known, which has no new entry of the seat's own, and the object is out with the seat, where the history leaves it. Where no other seat has a number, all was seen
  pub record Begins (k : ℕ) (me m : SeatState W S R) : Type 0 where
    pub home : Home W
    pub between : List (Entry S R)
    pub foreign : own_of me.0.numbers between ≡ []
    pub after : m ≡ (at_place (with_known me.0 (me.0.seen ++ between)) (Serves k), (0, Some home) ∷ [])
    pub legal : (w : W) → me.0.first ≡ Some w → IsLegal run w (me.0.seen ++ between)
    pub world : (w : W) → me.0.first ≡ Some w → home.object ≡ world_after run w (me.0.seen ++ between)
    pub entries : home.entries ≡ length (me.0.seen ++ between)
    pub each_proper : AllProper proper (me.0.seen ++ between)
    pub whole : length me.0.spare ≡ 0 → 0 < me.0.counted → me.0.counted ≡ length me.0.numbers → between ≡ []

  -- what was seen is compared with what the two parts of a join had seen, and is sound
  abbrev pub Compares : Step (Option (Home W)) → SeatState W S R → ℕ → SeatState W S R → Type 0
  Compares st me found m = (m ≡ (without_parts me.0, me.1)) × AllParts me.0.seen me.0.mail me.0.parts × (number_count me.0 ≤ most_seats) × IsSoundSeat run proper m

  abbrev pub LooksFrom : Place → SeatState W S R → ℕ → SeatState W S R → Type 0
  LooksFrom (Waits k) me found m = MatchBool (k % word_size == found) (Begins k me m) (m ≡ me)
  LooksFrom Free me found m = Unit {0}
  LooksFrom (Serves k) me found m = Unit {0}

  -- where the ticket served is the seat's, its turn begins
  abbrev pub Looks : Step (Option (Home W)) → SeatState W S R → ℕ → SeatState W S R → Type 0
  Looks st me found m = LooksFrom me.0.place me found m
