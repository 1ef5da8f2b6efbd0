-- What a saver holds, and what it says of a message that it saved.
use Rattle.std.specs.Prelude.{◌≡◌, ℕ, ◌==◌, ◌&&◌, ◌||◌, ◌++◌, not, Bool, true, false, List, [], Option, Some, None, drop, find}
use Rattle.std.specs.List.{list_any}
use Rattle.push_model.specs.declared.ids.MsgId.{MsgId}
use Rattle.push_model.specs.declared.advance.Event.{Event}
use Rattle.push_model.specs.declared.advance.Event.TheVariants.{AllSaved}
use Rattle.push_model.specs.declared.step.Stage.{Stage}
use Rattle.push_model.specs.declared.step.Stage.TheVariants.{Reread, Nudge, Clear, Saving}
use Rattle.push_model.specs.SessionKey.{SessionKey}
use Rattle.push_model.specs.MessageValue.{MessageValue}
use Rattle.push_model.specs.Names.{is_same_id}
use Rattle.push_model.specs.Cells.{Saver, is_saver}
use Rattle.push_model.specs.Covering.{is_saving}
use Rattle.push_model.specs.NodeSteps.{is_told}

-- the saver of a session that held those messages, the shown ones first
abbrev pub new_saver : SessionKey → List MessageValue → List MessageValue → Saver
new_saver s direct inbox = record { node = s.node; at = s.at; held = direct ++ inbox; saved = []; stage = Saving }

-- ---- what it holds

-- behind the next message
abbrev pub rest : List MessageValue → List MessageValue
rest ms = drop 1 ms

abbrev pub held_of : Option Saver → List MessageValue
held_of None = []
held_of (Some v) = v.held

-- what the saver of that session holds, if it is there
abbrev pub held_by : SessionKey → List Saver → List MessageValue
held_by s vs = held_of (find (is_saver s) vs)

-- a saver that is to be done with saving holds nothing
abbrev pub MayMeet : List MessageValue → Event → Type 0
MayMeet held AllSaved = held ≡ []
MayMeet held _ = Unit {0}

-- ---- what it saved

-- it was on the node, saved that message, and told nobody
abbrev pub has_left : ℕ → MsgId → Saver → Bool
has_left n i v = (v.node == n) && (not (is_told v.stage) && list_any (λ j. is_same_id j i) v.saved)

-- an actor that is to read the route row again, or that tells or unroutes the session of that place
abbrev pub tells_place : ℕ → ℕ → Stage → Bool
tells_place n a Reread = true
tells_place n a (Nudge m b) = (m == n) && (b == a)
tells_place n a (Clear m b) = (m == n) && (b == a)
tells_place n a _ = false

-- it saved that message, and is about to tell that session of it
abbrev pub covers_place : ℕ → ℕ → MsgId → Saver → Bool
covers_place n a i v = list_any (λ j. is_same_id j i) v.saved && (is_saving v.stage || tells_place n a v.stage)
