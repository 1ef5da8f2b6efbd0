-- The room that a handover will need, after each step of flights and savers.
use Rattle.std.proofs.Common.{◌≡◌, ℕ, ◌+◌, ◌≤◌, ◌<◌, Bool, true, cond, List, [], ◌∷◌, ◌++◌, length, refl, ap, ◌∙◌, arith, Option, Some, None, length-drop}
use Rattle.std.specs.Prelude.{sum_by, find, slice_index_or}
use Rattle.std.proofs.lemmas.List.Sums.{sum_by_push}
use Rattle.push_model.specs.declared.ids.MsgId.{MsgId}
use Rattle.push_model.specs.declared.advance.Advance.{Advance}
use Rattle.push_model.specs.SessionKey.{SessionKey}
use Rattle.push_model.specs.MessageValue.{MessageValue}
use Rattle.push_model.specs.Keyed.{with_first, without_first}
use Rattle.push_model.specs.Sessions.{Session, given, held, has_room, is_session}
use Rattle.push_model.specs.Cells.{Cell, Saver, User, is_saver}
use Rattle.push_model.specs.SaverSteps.{saver_moved, with_saver, with_held, with_saved}
use Rattle.shutdown_save.specs.Savers.{held_by, held_of, rest}
use Rattle.user_cell.specs.Flights.{CanHold}
use Rattle.user_cell.specs.Parts.{HasRoom}
use Rattle.user_cell.proofs.HeldActors.{sum_changed, sum_gone, length_gone, held_moved, none_changed}

abbrev held_saver : Saver → ℕ
held_saver v = length v.held

abbrev held_session : Session → ℕ
held_session x = length (held x)

-- a saver moves on, or is no more
pub room_moved : (a : Advance) (s : SessionKey) (c : Cell) (n k : ℕ) → HasRoom c n k → HasRoom (saver_moved a s c) n k
room_moved a s c n k h = record { rows = let r = h.rows in omega (arith, held_moved a s c.savers); savers = h.savers }

-- the session that was found is one that can hold the message
pub given_at : (i : ℕ) (xs : List Session) (x y : Session) (b : Bool) (m : MessageValue) → CanHold i xs → x ≡ slice_index_or xs i x →
    b ≡ has_room x → y ≡ cond b (given m x) x → y ≡ given m x
given_at i xs x y b m can is eb ey =
    let room : has_room x ≡ true = ap has_room is ∙ can.room x in
    let yes : b ≡ true = eb ∙ room in
    rw yes at ey

-- a session is closed, and its saver holds what it held
pub room_closed : (s : SessionKey) (x : Session) (v : Saver) (user : Option User) (c : Cell) (n k l : ℕ) → HasRoom c n k →
    find (is_session s) c.sessions ≡ Some x →
    length v.held ≡ length (held x) → k ≤ l + 1 →
    HasRoom (record c { user = user; sessions = without_first (is_session s) c.sessions; savers = c.savers ++ v ∷ [] }) n l
room_closed s x v user c n k l h found same le =
    let r = h.rows in
    let q = h.savers in
    record {
      rows = omega (arith, sum_gone held_session (is_session s) x c.sessions found, sum_by_push held_saver c.savers v);
      savers = omega (arith, length_gone (is_session s) x c.sessions found);
    }

-- ---- a saver that saves

left_sum : (s : SessionKey) (vs : List Saver) (o : Option Saver) → find (is_saver s) vs ≡ o →
    sum_by held_saver (with_first (is_saver s) (with_held (rest (held_by s vs))) vs) ≤ sum_by held_saver vs
left_sum s vs None e = rw (none_changed (is_saver s) (with_held (rest (held_by s vs))) vs e) (omega arith)
left_sum s vs (Some v) e =
    let of : held_by s vs ≡ v.held = ap held_of e in
    rw of (omega (arith, sum_changed held_saver (is_saver s) (with_held (rest v.held)) v vs e, length-drop 1 v.held))

-- its next message is left
pub room_left : (s : SessionKey) (c : Cell) (n k : ℕ) → HasRoom c n k → HasRoom (with_saver s (with_held (rest (held_by s c.savers))) c) n k
room_left s c n k h = record { rows = let r = h.rows in omega (arith, left_sum s c.savers (find (is_saver s) c.savers) refl); savers = h.savers }

-- it holds a message
holds_by : (s : SessionKey) (vs : List Saver) (o : Option Saver) (m : MessageValue) (ms : List MessageValue) → find (is_saver s) vs ≡ o →
    held_of o ≡ m ∷ ms → 0 < sum_by held_saver vs
holds_by s vs None m ms e h = cc
holds_by s vs (Some v) m ms e h = omega (arith, sum_gone held_saver (is_saver s) v vs e, ap length h)

pub room_held : (s : SessionKey) (c : Cell) (m : MessageValue) (n k : ℕ) → HasRoom c n k → held_by s c.savers ≡ m ∷ rest (held_by s c.savers) → 0 < n
room_held s c m n k h e = let r = h.rows in omega (arith, holds_by s c.savers (find (is_saver s) c.savers) m (rest (held_by s c.savers)) refl e)

saved_by : (s : SessionKey) (i : MsgId) (vs : List Saver) (o : Option Saver) (m : MessageValue) (ms : List MessageValue) → find (is_saver s) vs ≡ o →
    held_of o ≡ m ∷ ms →
    sum_by held_saver (with_first (is_saver s) (with_saved i ms) vs) + 1 ≡ sum_by held_saver vs
saved_by s i vs None m ms e h = cc
saved_by s i vs (Some v) m ms e h = omega (arith, sum_changed held_saver (is_saver s) (with_saved i ms) v vs e, ap length h)

-- its next message is saved
pub room_saved : (s : SessionKey) (i : MsgId) (m : MessageValue) (user : Option User) (c : Cell) (n k l : ℕ) → HasRoom c n k →
    held_by s c.savers ≡ m ∷ rest (held_by s c.savers) → n ≤ l + 1 →
    HasRoom (record (with_saver s (with_saved i (rest (held_by s c.savers))) c) { user = user }) l k
room_saved s i m user c n k l h e le =
    let r = h.rows in
    record { rows = omega (arith, saved_by s i c.savers (find (is_saver s) c.savers) m (rest (held_by s c.savers)) refl e); savers = h.savers }
