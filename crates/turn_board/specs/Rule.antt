-- The rule of a board: what holds between any two of its steps.
-- The words are the next ticket and the ticket whose turn it is, both modulo 2^64, how many entries there are, how many numbers were drawn, how many callers are about to park, and the mail of the eight slots. The slot has the object.
use Rattle.std.specs.Prelude.{◌≡◌, ◌⊎◌, ℕ, ◌+◌, ◌%◌, ◌<◌, ◌≤◌, Bool, true, List, [], ◌∷◌, ◌++◌, length, Option, Some, map}
use mathlib.Core.Option.{some}
use mathlib.Core.Option as maybe
use lib.ListN.{get_elem?}
use Rattle.atomic_table.specs.Table.{State}
use Rattle.push_model.specs.declared.entry.Entry.{Entry}
use Rattle.push_model.specs.Histories.{world_after, IsLegal}
use Rattle.push_model.specs.declared.mail.MailEntry.{MailEntry}
use Rattle.push_model.specs.MailWords.{out, IsLegalMail}
use Rattle.turn_board.specs.declared.view.Home.{Home}
use Rattle.turn_board.specs.declared.view.Place.{Place}
use Rattle.turn_board.specs.declared.view.Place.TheVariants.{Free, Waits, Serves}
use Rattle.turn_board.specs.declared.view.View.{View}
use Rattle.turn_board.specs.Numbers.{word_size, most_seats, has, Distinct, total, Apart, own_by, GrewByOthers}
use Rattle.push_model.specs.DeskViews.{mail_by}
use Rattle.turn_board.specs.Views.{own_of, mail_at, AllParts, ticket_of, all_numbers, tickets_out, number_count}

module _ {W S R : Type 0} where
  -- where a seat stands: its ticket is between the one that is served and the next one, and in its turn it knows the history
  abbrev pub Stands : ℕ → ℕ → List (Entry S R) → View W S R → Place → Type 0
  Stands ticket serving history v Free = Unit {0}
  Stands ticket serving history v (Waits k) = (serving ≤ k) × (k < ticket)
  Stands ticket serving history v (Serves k) = (k ≡ serving) × (k < ticket) × (v.known ≡ history)

  -- what holds of one seat: the history begins with what it has seen, and has no further entry of its numbers
  pub record Fits (origin : W) (ticket serving seats : ℕ) (history : List (Entry S R)) (v : View W S R) : Type 0 where
    pub first : (w : W) → v.first ≡ Some w → w ≡ origin
    pub rest : List (Entry S R)
    pub begins : history ≡ v.seen ++ rest
    pub foreign : own_of v.numbers rest ≡ []
    pub stands : Stands ticket serving history v v.place
    pub numbered : tickets_out v ≤ number_count v
    pub drawn : (k : ℕ) → has (all_numbers v) k ≡ true → k < seats
    pub distinct : Distinct (all_numbers v)
    pub unused : own_of v.spare history ≡ []
    pub parts : AllParts v.seen v.mail v.parts
    pub alone : 0 < v.counted → v.counted ≡ number_count v → v.counted ≡ seats

module _ {W S R : Type 0} (run : W → S → W × R) (origin : W) where
  -- the object is where the history leaves it
  abbrev pub IsThere : List (Entry S R) → Home W → Type 0
  IsThere history h = (h.object ≡ world_after run origin history) × (h.entries ≡ length history)

  -- the object is at home, or it is a seat's turn
  abbrev pub IsHomed : List (Entry S R) → List (maybe.Option (Option (Home W))) → List (View W S R) → Type 0
  IsHomed history homes views =
      ((h : Home W) × (homes ≡ some (Some h) ∷ []) × IsThere history h)
      ⊎ ((j k : ℕ) × (v : View W S R) × (get_elem? views j ≡ some v) × (v.place ≡ Serves k))

-- what holds of the mail that one seat has seen: a slot's mail begins with it, and has nothing further that is signed by its numbers
abbrev pub MailFits : {W S R : Type 0} → List (List MailEntry) → View W S R → Type 0
MailFits mails v = ((slot : ℕ) → GrewByOthers mail_by v.numbers (mail_at v.mail slot) (mail_at mails slot)) × ((slot : ℕ) → own_by mail_by v.spare (mail_at mails slot) ≡ [])

-- each entry is proper for the number that signs it, which was drawn
abbrev pub AllSigned : {S R : Type 0} → (ℕ → S → Bool) → ℕ → List (Entry S R) → Type 0
AllSigned proper seats [] = Unit {0}
AllSigned proper seats (e ∷ es) = (proper e.by e.step ≡ true) × (e.by < seats) × AllSigned proper seats es

-- each of them is signed by a number that was drawn
abbrev pub AllBelow : ℕ → List MailEntry → Type 0
AllBelow n [] = Unit {0}
AllBelow n (l ∷ ls) = (mail_by l < n) × AllBelow n ls

pub record IsBoard {W S R : Type 0} (run : W → S → W × R) (proper : ℕ → S → Bool) (origin : W) (s : State (Option (Home W)) (View W S R)) : Type 0 where
  -- the one history, and the one mail list of each slot
  pub history : List (Entry S R)
  pub mails : List (List MailEntry)
  pub ticket : ℕ
  pub serving : ℕ
  pub seats : ℕ
  pub parked : ℕ
  pub words : s.words ≡ ticket % word_size ∷ serving % word_size ∷ length history ∷ seats ∷ parked ∷ map out mails
  pub legal : IsLegal run origin history
  pub signed : AllSigned proper seats history
  -- the tickets that are out, each with one seat
  pub queue : ticket ≡ serving + total tickets_out s.views
  pub tickets_apart : Apart ticket_of s.views
  -- the numbers that were drawn, each with one seat
  pub count : total number_count s.views ≡ seats
  pub few : seats ≤ most_seats
  pub numbers_apart : Apart all_numbers s.views
  pub each : (j : ℕ) (v : View W S R) → get_elem? s.views j ≡ some v → Fits origin ticket serving seats history v
  pub homed : IsHomed run origin history s.homes s.views
  pub out : (j k : ℕ) (v : View W S R) → get_elem? s.views j ≡ some v → v.place ≡ Serves k → s.homes ≡ maybe.none ∷ []
  pub mail_wide : length mails ≡ 8
  pub mail_legal : (slot : ℕ) → IsLegalMail (mail_at mails slot)
  pub mail_signed : (slot : ℕ) → AllBelow seats (mail_at mails slot)
  pub each_mail : (j : ℕ) (v : View W S R) → get_elem? s.views j ≡ some v → MailFits mails v
