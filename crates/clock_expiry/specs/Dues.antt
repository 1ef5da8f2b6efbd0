-- Moments at which messages expire, with the ids of these messages, in ascending order.
use Rattle.std.specs.Prelude.{◌≡◌, ℕ, ◌<◌, ◌==◌, ◌&&◌, ◌||◌, nat_lt, nat_le, not, Bool, true, false, List, [], ◌∷◌, Option, Some, None, if◌then◌else◌}
use Rattle.std.specs.List.{list_all, list_any}
use Rattle.push_model.specs.declared.ids.MsgId.{MsgId}
use Rattle.push_model.specs.Names.{is_same_id}

-- The entries, and for how many more there is room.
pub record Dues : Type 0 where
  pub entries : List (ℕ × MsgId)
  pub spare : ℕ

-- ---- the order

-- ids by shard, and then by number
unfoldable pub is_id_before : MsgId → MsgId → Bool
is_id_before a b = nat_lt a.shard b.shard || ((a.shard == b.shard) && nat_lt a.number b.number)

-- entries by moment, and then by id
unfoldable pub is_before : ℕ × MsgId → ℕ × MsgId → Bool
is_before a b = nat_lt a.0 b.0 || ((a.0 == b.0) && is_id_before a.1 b.1)

-- none of them is before the entry
abbrev pub is_least : ℕ × MsgId → List (ℕ × MsgId) → Bool
is_least e es = list_all (λ x. not (is_before x e)) es

abbrev pub is_ascending : List (ℕ × MsgId) → Bool
is_ascending [] = true
is_ascending (e ∷ es) = is_least e es && is_ascending es

-- one more entry, in front of the first that isn't before it
abbrev pub with_due : ℕ × MsgId → List (ℕ × MsgId) → List (ℕ × MsgId)
with_due e [] = e ∷ []
with_due e (x ∷ xs) = if is_before x e then x ∷ with_due e xs else e ∷ x ∷ xs

-- ---- tests

-- exactly that entry
abbrev pub is_due : ℕ → MsgId → ℕ × MsgId → Bool
is_due expires i e = (e.0 == expires) && is_same_id e.1 i

-- its moment has come
abbrev pub has_come : ℕ → ℕ × MsgId → Bool
has_come moment e = nat_le e.0 moment

-- ---- answers

abbrev pub due_id : Option (ℕ × MsgId) → Option MsgId
due_id None = None
due_id (Some e) = Some e.1

-- an entry has that moment, and none has come before it
pub record IsSoonest (es : List (ℕ × MsgId)) (t : ℕ) : Type 0 where
  pub comes : list_any (λ e. e.0 == t) es ≡ true
  pub before : (moment : ℕ) → moment < t → list_any (has_come moment) es ≡ false
