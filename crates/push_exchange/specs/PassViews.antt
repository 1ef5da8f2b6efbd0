-- What one caller knows of the board of one shard.
use Rattle.std.specs.Prelude.{◌≡◌, ℕ, ◌+◌, ◌<◌, true, false, List, [], ◌∷◌, ◌++◌, length, Option, Some, None}
use Rattle.atomic_table.specs.Seated.{TableId}
use Rattle.push_model.specs.declared.entry.Entry.{Entry}
use Rattle.push_model.specs.declared.mail.MailEntry.{MailEntry}
use Rattle.push_model.specs.declared.step.Step.{Step}
use Rattle.push_model.specs.declared.reply.Reply.{Reply}
use Rattle.push_model.specs.Worlds.{World, start}
use Rattle.push_model.specs.Steps.{proper, step}
use Rattle.push_model.specs.Histories.{AllProper, IsLegal, entry, world_after}
use Rattle.push_model.specs.Reached.{IsReached}
use Rattle.push_model.specs.MailWords.{IsLegalMail}
use Rattle.push_model.specs.DeskViews.{entry_by, mail_by}
use Rattle.turn_board.specs.declared.object.Object.{Ghosts}
use Rattle.turn_board.specs.declared.pass.Pass.{Pass}
use Rattle.turn_board.specs.Numbers.{GrewByOthers, has, longer, own_by}
use Rattle.turn_board.specs.Views.{longer_each, mail_at}
use Rattle.turn_board.specs.Passes.{pass_counted, pass_counts, pass_first, pass_mail, pass_number, pass_numbers, pass_seen}

-- The numbers that name the board. The number that signs the caller's entries, and all that are its own. The world in which
-- the shard began, what was seen of its history, and of the mail of each slot. How often the caller counted the numbers of
-- the board, and how many were drawn at the last count, or 0 where it split or joined since.
pub record PassView : Type 0 where
  pub board : List ℕ
  pub number : ℕ
  pub numbers : List ℕ
  pub opened : World
  pub seen : List (Entry Step Reply)
  pub mail : List (List MailEntry)
  pub counts : ℕ
  pub counted : ℕ

abbrev pub board_name : TableId → List ℕ
board_name z = z.words ∷ z.slots ∷ z.views_name ∷ z.atom ∷ z.block ∷ z.offset ∷ z.slot_names

abbrev pub world_or_start : Option World → World
world_or_start (Some w) = w
world_or_start None = start 0 1

module _ {g : Ghosts World Step Reply} where
  abbrev pub view_of : Pass World Step Reply g → PassView
  view_of p =
      record {
        board = board_name p.seat.table_id;
        number = pass_number p;
        numbers = pass_numbers p;
        opened = world_or_start (pass_first p);
        seen = pass_seen p;
        mail = pass_mail p;
        counts = pass_counts p;
        counted = pass_counted p;
      }

-- the first pass of a board with the empty shard of that number
abbrev pub opening_pass : List ℕ → ℕ → PassView
opening_pass board shard =
    record { board = board; number = 0; numbers = 0 ∷ []; opened = start shard 1; seen = []; mail = []; counts = 0; counted = 0 }

-- ---- what always holds

-- The shard began in a world that a legal history leads to. What was seen is a legal history from there, of proper entries,
-- and legal mail. The number that signs is one of the own.
pub record IsKept (v : PassView) : Type 0 where
  pub opened : IsReached v.opened
  pub legal : IsLegal step v.opened v.seen
  pub each_proper : AllProper proper v.seen
  pub signs : has v.numbers v.number ≡ true
  pub mail : (slot : ℕ) → IsLegalMail (mail_at v.mail slot)

-- ---- from one moment to a later one

-- a pass of the same board, with the same numbers
pub record IsSame (a b : PassView) : Type 0 where
  pub board : b.board ≡ a.board
  pub number : b.number ≡ a.number
  pub numbers : b.numbers ≡ a.numbers
  pub opened : b.opened ≡ a.opened

-- and nothing more is seen
pub record IsUnmoved (a b : PassView) : Type 0 where
  pub same : IsSame a b
  pub seen : b.seen ≡ a.seen
  pub mail : b.mail ≡ a.mail

-- and the numbers of the board were counted once more
pub record Asked (a b : PassView) : Type 0 where
  pub unmoved : IsUnmoved a b
  pub counts : b.counts ≡ a.counts + 1

-- it was counted that no number was drawn but the own: every other pass of the board was joined into this one
abbrev pub IsAlone : PassView → Type 0
IsAlone v = (0 < v.counted) × (v.counted ≡ length v.numbers)

-- entries of others came, and then this one
pub record Replied (a b : PassView) (x : Step) (r : Reply) : Type 0 where
  pub between : List (Entry Step Reply)
  pub seen : b.seen ≡ (a.seen ++ between) ++ entry a.number x r ∷ []
  pub foreign : own_by entry_by a.numbers between ≡ []

-- A new pass of the same board, which has seen as much. It has one number, which isn't among the old ones, and no entry and
-- no mail of its own.
pub record IsSplitOff (a b : PassView) : Type 0 where
  pub board : b.board ≡ a.board
  pub opened : b.opened ≡ a.opened
  pub seen : b.seen ≡ a.seen
  pub mail : b.mail ≡ a.mail
  pub one : b.numbers ≡ b.number ∷ []
  pub fresh : has a.numbers b.number ≡ false
  pub none_own : own_by entry_by b.numbers b.seen ≡ []
  pub none_own_mail : (slot : ℕ) → own_by mail_by b.numbers (mail_at b.mail slot) ≡ []

-- what is seen begins with all that the part had seen, and has nothing further that the part's numbers sign
pub record HasSeenPart (new part : PassView) : Type 0 where
  pub seen : GrewByOthers entry_by part.numbers part.seen new.seen
  pub mail : (slot : ℕ) → GrewByOthers mail_by part.numbers (mail_at part.mail slot) (mail_at new.mail slot)

-- with the pass b joined into the pass a
pub record IsJoinedPass (a b c : PassView) : Type 0 where
  pub board : c.board ≡ a.board
  pub number : c.number ≡ a.number
  pub opened : c.opened ≡ a.opened
  pub numbers : c.numbers ≡ a.numbers ++ b.numbers
  pub seen : c.seen ≡ longer a.seen b.seen
  pub mail : c.mail ≡ longer_each a.mail b.mail
  pub this : HasSeenPart c a
  pub that : HasSeenPart c b

-- what was seen is the whole history of the shard, which is where it leads
pub record IsEndOf (v : PassView) (w : World) : Type 0 where
  pub legal : IsLegal step v.opened v.seen
  pub each_proper : AllProper proper v.seen
  pub world : w ≡ world_after step v.opened v.seen
