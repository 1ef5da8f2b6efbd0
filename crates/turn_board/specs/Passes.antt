-- What a clause says of a pass.
use Rattle.std.specs.Prelude.{◌≡◌, ℕ, ◌<◌, Bool, true, List, [], ◌∷◌, ◌++◌, length, Option, Some}
use Rattle.push_model.specs.declared.entry.Entry.{Entry}
use Rattle.push_model.specs.Histories.{IsLegal, AllProper, world_after}
use Rattle.push_model.specs.declared.mail.MailChange.{MailChange}
use Rattle.push_model.specs.declared.mail.MailEntry.{MailEntry}
use Rattle.turn_board.specs.declared.object.Object.{Ghosts}
use Rattle.turn_board.specs.declared.pass.Pass.{Pass}
use Rattle.turn_board.specs.declared.pass.Board.{Board}
use Rattle.push_model.specs.MailWords.{mail_entry, out, IsFound, IsLegalMail}
use Rattle.turn_board.specs.Numbers.{has, own_by, GrewByOthers}
use Rattle.push_model.specs.DeskViews.{mail_by}
use Rattle.turn_board.specs.Views.{entry_by, own_of, mail_at}

module _ {W S R : Type 0} {g : Ghosts W S R} where
  -- the board that the pass is of
  abbrev pub IsPassOf : Board W S R → Pass W S R g → Type 0
  IsPassOf board p = p.seat.table_id ≡ board.table.shared.table_id

  -- the number that signs the pass's entries and mail
  abbrev pub pass_number : Pass W S R g → ℕ
  pass_number p = p.number

  -- that number, and those of the passes joined into it
  abbrev pub pass_numbers : Pass W S R g → List ℕ
  pass_numbers p = p.seat.me.0.numbers

  -- the world in which the board began
  abbrev pub pass_first : Pass W S R g → Option W
  pass_first p = p.seat.me.0.first

  -- the beginning of the board's history that the pass has seen
  abbrev pub pass_seen : Pass W S R g → List (Entry S R)
  pass_seen p = p.seat.me.0.seen

  -- the entries of it that are the pass's own
  abbrev pub pass_own : Pass W S R g → List (Entry S R)
  pass_own p = own_of (pass_numbers p) (pass_seen p)

  -- what the pass has seen of each slot's mail
  abbrev pub pass_mail : Pass W S R g → List (List MailEntry)
  pass_mail p = p.seat.me.0.mail

  -- what of the slot's mail is the pass's own
  abbrev pub pass_own_mail : Pass W S R g → ℕ → List MailEntry
  pass_own_mail p slot = own_by mail_by (pass_numbers p) (mail_at (pass_mail p) slot)

  -- how often the pass counted the board's numbers
  abbrev pub pass_counts : Pass W S R g → ℕ
  pass_counts p = p.seat.me.0.counts

  -- it is a pass of the same board, with the same numbers
  abbrev pub IsSamePass : Pass W S R g → Pass W S R g → Type 0
  IsSamePass old new = (new.seat.table_id ≡ old.seat.table_id) × (pass_number new ≡ pass_number old) × (pass_numbers new ≡ pass_numbers old) × (pass_first new ≡ pass_first old)

  -- nothing more is seen
  abbrev pub IsUnmoved : Pass W S R g → Pass W S R g → Type 0
  IsUnmoved old new = (pass_seen new ≡ pass_seen old) × (pass_mail new ≡ pass_mail old)

  -- how many numbers were drawn when the pass last counted them; 0 after a split or a join
  abbrev pub pass_counted : Pass W S R g → ℕ
  pass_counted p = p.seat.me.0.counted

  -- it was counted that no number was drawn but the pass's own: every other pass was joined into it
  abbrev pub IsAlone : Pass W S R g → Type 0
  IsAlone p = (0 < pass_counted p) × (pass_counted p ≡ length (pass_numbers p))

  -- what was seen is a legal history from the world in which the board began, of proper entries
  abbrev pub IsLegalPass : (W → S → W × R) → (ℕ → S → Bool) → Pass W S R g → Type 0
  IsLegalPass run proper p = ((w : W) → pass_first p ≡ Some w → IsLegal run w (pass_seen p)) × AllProper proper (pass_seen p)

  -- What always holds of a pass: it knows the world in which the board began, what it has seen is a legal history of proper
  -- entries from there, and legal mail, and its number is among its numbers.
  pub record IsSound (run : W → S → W × R) (proper : ℕ → S → Bool) (p : Pass W S R g) : Type 0 where
    pub origin : W
    pub first : pass_first p ≡ Some origin
    pub legal : IsLegal run origin (pass_seen p)
    pub each_proper : AllProper proper (pass_seen p)
    pub signs : has (pass_numbers p) (pass_number p) ≡ true
    pub mail : (slot : ℕ) → IsLegalMail (mail_at (pass_mail p) slot)

  -- what the new pass has seen begins with what the part had seen, and has nothing further that is signed by the part's numbers
  abbrev pub HasPart : Pass W S R g → Pass W S R g → Type 0
  HasPart new part = GrewByOthers entry_by (pass_numbers part) (pass_seen part) (pass_seen new)
      × ((slot : ℕ) → GrewByOthers mail_by (pass_numbers part) (mail_at (pass_mail part) slot) (mail_at (pass_mail new) slot))

  -- what was seen is the whole history: it is legal, and the object is where it leaves it
  abbrev pub IsEnd : (W → S → W × R) → (ℕ → S → Bool) → Pass W S R g → W → Type 0
  IsEnd run proper p object = AllProper proper (pass_seen p) × ((w : W) → pass_first p ≡ Some w → IsLegal run w (pass_seen p) × (object ≡ world_after run w (pass_seen p)))

-- The slot's mail list ends with this change, signed by the number. Of what is new before it nothing is signed by one of
-- the numbers, and what was taken are the bits that were out. Of the other slots nothing more is seen.
pub record SlotEndsWith (slot : ℕ) (c : MailChange) (number : ℕ) (numbers : List ℕ) (old new : List (List MailEntry)) : Type 0 where
  pub between : List MailEntry
  pub foreign : own_by mail_by numbers between ≡ []
  pub mail : mail_at new slot ≡ (mail_at old slot ++ between) ++ mail_entry number c ∷ []
  pub found : IsFound (out (mail_at old slot ++ between)) c
  pub legal : IsLegalMail (mail_at new slot)
  pub others : (k : ℕ) → ¬ (k ≡ slot) → mail_at new k ≡ mail_at old k
