-- What the loop of a node keeps of each session.
use Rattle.std.specs.Prelude.{◌==◌, ◌&&◌, ◌||◌, ◌%◌, ℕ, Bool, false, Option, Some, None}
use Rattle.std.specs.Int.{bit_at}
use Rattle.push_model.specs.SessionKey.{SessionKey}
use Rattle.push_model.specs.DeskViews.{DeskView}
use Rattle.session_drive.specs.Shards.{shard_of}
use Rattle.session_drive.specs.Chats.{ChatView}
use Rattle.session_drive.specs.Runs.{Sides}
use Rattle.session_front.specs.declared.live.Live.{Live}
use Rattle.ws_front.specs.declared.marks.Marks.{Marks}

-- the counts of a session's chat, and how far the session has come
pub record SeatView : Type 0 where
  pub marks : Marks
  pub live : Live

-- a session before its client's hello, on a chat on which nothing was said
abbrev pub new_seat : SeatView
new_seat =
    record {
      marks = record { faults = 0; lulls = 0; code = None };
      live = record { s = None; due = false };
    }

-- ---- its chat, over a WebSocket

-- the chat tells its count of faults, and its code
abbrev pub web_chat : Marks → ChatView
web_chat m = record { left = None; taken = None; sent = None; code = m.code; faults = m.faults }

abbrev pub seat_sides : DeskView → SeatView → Sides
seat_sides desks seat = record { desks = desks; chat = web_chat seat.marks }

-- ---- its mail

-- these bits have that one
abbrev pub has_bit : ℕ → ℕ → Bool
has_bit bits bit = bit_at bits bit == 1

-- bits that were taken for the shard k, of so many, name the user of the session
abbrev pub is_named : ℕ → ℕ → ℕ → Option SessionKey → Bool
is_named size k bits None = false
is_named size k bits (Some s) = (shard_of s.uaid size == k) && has_bit bits (s.uaid.0 % 64)

-- the session is due where its user is named, or was due before
abbrev pub told : ℕ → ℕ → ℕ → SeatView → SeatView
told size k bits seat =
    record {
      marks = seat.marks;
      live = record { s = seat.live.s; due = seat.live.due || is_named size k bits seat.live.s };
    }
