-- The moments at which rows expire.
use Rattle.std.specs.Prelude.{◌≡◌, ℕ, ◌≤◌, List, [], ◌∷◌, Option, Some, None}
use Rattle.push_model.specs.declared.ids.MsgId.{MsgId}
use Rattle.push_model.specs.declared.parts.Row.{Row}
use Rattle.push_model.specs.MessageValue.{MessageValue}
use Rattle.push_model.specs.Keyed.{without_first}
use Rattle.clock_expiry.specs.Expiry.{expires_at}
use Rattle.clock_expiry.specs.Dues.{Dues, with_due, is_due}

-- with that moment's entry, if there is a moment
abbrev pub with_expiry : Option ℕ → MsgId → List (ℕ × MsgId) → List (ℕ × MsgId)
with_expiry None i dues = dues
with_expiry (Some t) i dues = with_due (t, i) dues

-- without it
abbrev pub without_expiry : Option ℕ → MsgId → List (ℕ × MsgId) → List (ℕ × MsgId)
without_expiry None i dues = dues
without_expiry (Some t) i dues = without_first (is_due t i) dues

-- with the message's entry, if it expires, and without
abbrev pub with_message : MessageValue → List (ℕ × MsgId) → List (ℕ × MsgId)
with_message m dues = with_expiry (expires_at m) m.id dues

abbrev pub without_message : MessageValue → List (ℕ × MsgId) → List (ℕ × MsgId)
without_message m dues = without_expiry (expires_at m) m.id dues

-- an entry for each row that expires
abbrev pub dues_of : List Row → List (ℕ × MsgId)
dues_of [] = []
dues_of (r ∷ rows) = with_message r.message (dues_of rows)

-- these are the entries of the rows, with room for that many more
pub record IsDueOf (rows : List Row) (spare : ℕ) (dues : Dues) : Type 0 where
  pub entries : dues.entries ≡ dues_of rows
  pub room : spare ≤ dues.spare
