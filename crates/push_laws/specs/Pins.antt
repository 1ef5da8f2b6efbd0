-- Worked cells and worlds, by which a reader tries the definitions.
use Rattle.std.specs.Prelude.{ℕ, false, List, [], ◌∷◌, Some, None}
use Rattle.push_model.specs.declared.parts.Channel.{Channel}
use Rattle.push_model.specs.declared.parts.Claim.{Claim}
use Rattle.push_model.specs.declared.parts.FlightRow.{FlightRow}
use Rattle.push_model.specs.declared.parts.Row.{Row}
use Rattle.push_model.specs.declared.step.Fetch.TheVariants.{Idle}
use Rattle.push_model.specs.declared.step.Stage.{Stage}
use Rattle.push_model.specs.MessageValue.{MessageValue}
use Rattle.push_model.specs.Sessions.{Session}
use Rattle.push_model.specs.Cells.{Cell, Saver, User}
use Rattle.push_model.specs.Worlds.{World, start}
use Rattle.push_model.specs.Pins.{channel_two, message_of, token_one, user_one}

-- the channel 2 of user 1, and the route row of node 3 and moment 7
abbrev pub one_channel : List Channel
one_channel = record { chid = channel_two; token = token_one } ∷ []

abbrev pub user_with : List Channel → List Row → User
user_with channels rows = record { route = record { node = Some 3; at = 7; touched = 0 }; channels = channels; rows = rows }

abbrev pub rows_with : List Channel → List Row → Cell
rows_with channels rows =
    record { uaid = user_one; user = Some (user_with channels rows); claims = []; sessions = []; savers = []; flights = [] }

-- without rows
abbrev pub actors_with : List Claim → List Session → List Saver → Cell
actors_with claims sessions savers =
    record { uaid = user_one; user = Some (user_with one_channel []); claims = claims; sessions = sessions; savers = savers; flights = [] }

abbrev pub claim_at : ℕ → ℕ → Claim
claim_at n a = record { node = n; at = a }

abbrev pub session_at : ℕ → ℕ → List MessageValue → Session
session_at n a inbox =
    record { node = n; at = a; displaced = false; inbox = inbox; direct = []; sent = []; check = false; fetch = Idle }

abbrev pub saver_at : ℕ → ℕ → Stage → List MessageValue → Saver
saver_at n a stage held = record { node = n; at = a; held = held; saved = []; stage = stage }

-- a flight of that pass and message, with that ttl
abbrev pub flight_of : ℕ → ℕ → Stage → ℕ → FlightRow
flight_of pass n stage ttl = record { op = record { pass = pass; k = 1 }; message = message_of n ttl None; token = token_one; stage = stage }

abbrev pub flights_with : List FlightRow → Cell
flights_with flights = record { uaid = user_one; user = None; claims = []; sessions = []; savers = []; flights = flights }

-- user 1 has one cell, under the key 1, and the next number is 9
abbrev pub world_of : List (ℕ × Cell) → World
world_of cells = record (start 0 9) { clock = 100; cells = cells }
