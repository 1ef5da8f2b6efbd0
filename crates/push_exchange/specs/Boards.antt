-- What one caller knows of all the boards, and how it changes.
use Rattle.std.specs.Prelude.{◌≡◌, ℕ, zero, suc, ◌<◌, ◌≤◌, ◌==◌, ◌||◌, true, false, List, [], length, slice_index_or}
use Rattle.push_model.specs.declared.mail.MailEntry.{MailEntry}
use Rattle.push_model.specs.Worlds.{World, start}
use Rattle.push_model.specs.Accounting.{IsAccounted}
use Rattle.push_model.specs.Caring.{is_cared}
use Rattle.push_model.specs.DeskViews.{DeskView, IsFront, IsHonest, entry_by, mail_by, own_among, own_entries, own_mail, world_at}
use Rattle.turn_board.specs.Numbers.{has, longer}
use Rattle.turn_board.specs.Views.{mail_at}
use Rattle.push_exchange.specs.PassViews.{Asked, IsAlone, IsKept, PassView, opening_pass}

-- what stands for a board that isn't there
abbrev pub no_pass : PassView
no_pass = opening_pass [] 0

abbrev pub pass_at : List PassView → ℕ → PassView
pass_at ps k = slice_index_or ps k no_pass

abbrev pub board_at : List (List ℕ) → ℕ → List ℕ
board_at bs k = slice_index_or bs k []

-- the nodes 1 to 8 have the slots 0 to 7
abbrev pub node_mail : List (List MailEntry) → ℕ → List MailEntry
node_mail ls zero = []
node_mail ls (suc slot) = mail_at ls slot

-- each shard is on the board of its number
abbrev pub passes_view : List PassView → DeskView
passes_view ps =
    record {
      size = length ps;
      board = λ k. (pass_at ps k).board;
      number = λ k. (pass_at ps k).number;
      is_own = λ k n. has (pass_at ps k).numbers n;
      opened = λ k. (pass_at ps k).opened;
      seen = λ k. (pass_at ps k).seen;
      mail = λ k node. node_mail (pass_at ps k).mail node;
    }

-- ---- what always holds: there are sixteen boards, each with a pass, and each has the shard of its number

pub record IsSeated (bs : List (List ℕ)) (ps : List PassView) : Type 0 where
  pub wide : length ps ≡ 16
  pub boards : length bs ≡ 16
  pub over : (k : ℕ) → (pass_at ps k).board ≡ board_at bs k
  pub numbered : (k : ℕ) → k < 16 → (pass_at ps k).opened.shard ≡ k
  pub kept : (k : ℕ) → IsKept (pass_at ps k)

-- ---- the same boards

abbrev pub IsOver : List (List ℕ) → DeskView → Type 0
IsOver bs v = (k : ℕ) → v.board k ≡ board_at bs k

abbrev pub IsBeside : DeskView → DeskView → Type 0
IsBeside a b = (k : ℕ) → b.board k ≡ a.board k

-- the first passes of sixteen empty shards: nothing is seen, and the only number is 0
pub record IsFresh (v : DeskView) : Type 0 where
  pub size : v.size ≡ 16
  pub number : (k : ℕ) → v.number k ≡ 0
  pub is_own : (k n : ℕ) → v.is_own k n ≡ (0 == n)
  pub opened : (k : ℕ) → k < 16 → v.opened k ≡ start k 1
  pub seen : (k : ℕ) → v.seen k ≡ []
  pub mail : (k n : ℕ) → v.mail k n ≡ []

-- ---- split and joined

-- New passes of the same boards, which have seen as much. Each has one number, which isn't among the old ones, and no entry
-- and no mail of its own.
pub record IsSplit (old new : DeskView) : Type 0 where
  pub size : new.size ≡ old.size
  pub board : IsBeside old new
  pub opened : (k : ℕ) → new.opened k ≡ old.opened k
  pub seen : (k : ℕ) → new.seen k ≡ old.seen k
  pub mail : (k n : ℕ) → new.mail k n ≡ old.mail k n
  pub one : (k n : ℕ) → new.is_own k n ≡ (new.number k == n)
  pub fresh : (k : ℕ) → k < new.size → old.is_own k (new.number k) ≡ false
  pub none_own : (k : ℕ) → own_entries new k ≡ []
  pub none_own_mail : (k n : ℕ) → own_mail new k n ≡ []

-- What is seen begins with all that the part had seen. The part's own entries, and its own mail, are there, and no others of
-- its numbers.
pub record HasPart (part new : DeskView) : Type 0 where
  pub seen : (k : ℕ) → k < new.size → IsFront (part.seen k) (new.seen k)
  pub own : (k : ℕ) → k < new.size → own_among entry_by (part.is_own k) (new.seen k) ≡ own_entries part k
  pub mail : (k n : ℕ) → k < new.size → IsFront (part.mail k n) (new.mail k n)
  pub own_mail : (k n : ℕ) → k < new.size → own_among mail_by (part.is_own k) (new.mail k n) ≡ own_mail part k n

-- With the other's passes joined into it: the longer of the two beginnings that were seen, and the own numbers of both. The
-- number that signs stays.
pub record IsJoined (old other new : DeskView) : Type 0 where
  pub size : new.size ≡ old.size
  pub board : IsBeside old new
  pub number : (k : ℕ) → new.number k ≡ old.number k
  pub opened : (k : ℕ) → new.opened k ≡ old.opened k
  pub is_own : (k n : ℕ) → k < new.size → new.is_own k n ≡ (old.is_own k n || other.is_own k n)
  pub seen : (k : ℕ) → k < new.size → new.seen k ≡ longer (old.seen k) (other.seen k)
  pub mail : (k n : ℕ) → k < new.size → new.mail k n ≡ longer (old.mail k n) (other.mail k n)
  pub this : HasPart old new
  pub that : HasPart other new

-- ---- asked, and closed

-- each of the first n passes counted the numbers of its board once more, and nothing else changed
pub record AllAsked (n : ℕ) (ps qs : List PassView) : Type 0 where
  pub wide : length qs ≡ length ps
  pub each : (k : ℕ) → k < n → Asked (pass_at ps k) (pass_at qs k)
  pub rest : (k : ℕ) → n ≤ k → pass_at qs k ≡ pass_at ps k

-- every other pass of every board was joined into these
abbrev pub AllAlone : List PassView → Type 0
AllAlone ps = (k : ℕ) → k < 16 → IsAlone (pass_at ps k)

-- some other pass of some board was not
abbrev pub SomeOut : List PassView → Type 0
SomeOut ps = (k : ℕ) × (k < 16) × ¬ IsAlone (pass_at ps k)

abbrev pub world_in : List World → ℕ → World
world_in ws k = slice_index_or ws k (start 0 1)

-- The sixteen shards' worlds are those to which all that was seen leads. That is a legal history of proper entries; where the
-- shard began empty it is accounted for, and after it each stored row that a routed session wasn't sent is covered.
pub record IsClosed (v : DeskView) (ws : List World) : Type 0 where
  pub wide : length ws ≡ 16
  pub world : (k : ℕ) → k < 16 → world_in ws k ≡ world_at v k
  pub honest : IsHonest v
  pub accounted : (k number next : ℕ) → v.opened k ≡ start number next → IsAccounted (start number next) (v.seen k)
  pub cared : (k : ℕ) → is_cared (world_at v k) ≡ true
