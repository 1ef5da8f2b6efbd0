-- Rows, as contracts see them, and what is done to each of them.
use Rattle.std.specs.Prelude.{◌≡◌, ℕ, ◌<◌, ◌+◌, ◌==◌, ◌&&◌, ◌||◌, not, true, false, Bool, List}
use Rattle.std.specs.List.{list_any}
use Rattle.push_model.specs.declared.ids.MsgId.{MsgId}
use Rattle.push_model.specs.declared.parts.Row.{Row}
use Rattle.push_model.specs.Messages.{is_expired}
use Rattle.push_model.specs.Rows.{is_row}

-- The rows in the order of storing, and for how many more there is room.
pub record RowStock : Type 0 where
  pub rows : List Row
  pub spare : ℕ

abbrev pub is_orphan : Row → Bool
is_orphan r = r.orphan

-- with the orphan mark, where it passes the test
abbrev pub marked_where : (Row → Bool) → Row → Row
marked_where p r = record r { orphan = r.orphan || p r }

-- where it is that message's row
abbrev pub marked_row : MsgId → Row → Row
marked_row i r = marked_where (is_row i) r

-- ---- when rows expire

abbrev pub is_past : ℕ → Row → Bool
is_past moment r = is_expired moment r.message

-- its ttl isn't 0, and passes at that moment
abbrev pub expires_then : ℕ → Row → Bool
expires_then moment r = not (r.message.ask.terms.ttl == 0) && (r.message.accepted + r.message.ask.terms.ttl == moment)

-- no row is expired at any moment
abbrev pub NeverExpire : List Row → Type 0
NeverExpire rows = (moment : ℕ) → list_any (is_past moment) rows ≡ false

-- some row expires at that moment, and none is expired before
pub record IsSoonest (rows : List Row) (t : ℕ) : Type 0 where
  pub comes : list_any (expires_then t) rows ≡ true
  pub before : (moment : ℕ) → moment < t → list_any (is_past moment) rows ≡ false
