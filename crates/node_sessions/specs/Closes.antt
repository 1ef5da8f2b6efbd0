-- How the sessions of a loop end where the node stops.
use Rattle.std.specs.Prelude.{◌≡◌, ℕ, List, [], ◌∷◌, Some}
use Rattle.push_model.specs.DeskViews.{DeskView}
use Rattle.session_drive.specs.Chats.{ChatView}
use Rattle.session_front.specs.Pumps.{Finishes, Shuts}
use Rattle.node_sessions.specs.Seats.{SeatView, web_chat}

-- the server goes away (RFC 6455, section 7.4.1)
abbrev pub going_away : ℕ
going_away = 1001

-- a session that is attached was shut, and then the client was told that the server goes away
pub record SeatClosed (seat : SeatView) (a b : DeskView) (before after : ℕ) : Type 0 where
  pub shuts : Shuts seat.live.s a b before after
  pub end : ChatView
  pub finishes : Finishes (Some going_away) (web_chat seat.marks) end

-- so was each, the last first
abbrev pub SeatsClosed : List SeatView → DeskView → DeskView → ℕ → ℕ → Type 0
SeatsClosed [] a b before after = (b ≡ a) × (after ≡ before)
SeatsClosed (seat ∷ seats) a c before after =
    (b : DeskView) × (between : ℕ) × SeatsClosed seats a b before between × SeatClosed seat b c between after
