-- What comes of a flight's message that is to be stored, among a user's channels and rows.
use Rattle.std.specs.Prelude.{◌≡◌, ℕ, Bool, true, false, List, if◌then◌else◌}
use Rattle.std.specs.List.{list_any}
use Rattle.push_model.specs.declared.parts.Channel.{Channel}
use Rattle.push_model.specs.declared.parts.Row.{Row}
use Rattle.push_model.specs.declared.parts.FlightRow.{FlightRow}
use Rattle.push_model.specs.declared.advance.Event.{Event}
use Rattle.push_model.specs.declared.advance.Event.TheVariants.{Stored as IsStored, Ended}
use Rattle.push_model.specs.declared.advance.Advance.{Advance}
use Rattle.push_model.specs.declared.advance.Advance.TheVariants.{Moved as Goes}
use Rattle.push_model.specs.declared.standing.Verdict.{Verdict}
use Rattle.push_model.specs.declared.standing.Verdict.TheVariants.{Stays, Older, Full, Joins}
use Rattle.push_model.specs.declared.reply.Reply.{Reply}
use Rattle.push_model.specs.declared.reply.Reply.TheVariants.{Stored, NoFlight}
use Rattle.push_model.specs.Messages.{is_expired}
use Rattle.push_model.specs.Rows.{verdict}
use Rattle.push_model.specs.Outcomes.{advance_reply}
use Rattle.channel_rows.specs.Channels.{is_both}
use Rattle.message_rows.specs.Storing.{rows_with_stored}

-- the channel with the flight's token is among these
abbrev pub is_meant : FlightRow → List Channel → Bool
is_meant f channels = list_any (is_both f.message.chid f.token) channels

-- what happens to the flight
abbrev pub verdict_event : Verdict → Event
verdict_event Stays = IsStored
verdict_event Older = Ended 201
verdict_event Full = Ended 503
verdict_event Joins = IsStored

abbrev pub store_event : ℕ → FlightRow → List Channel → List Row → Event
store_event moment f channels rows =
    if is_meant f channels
    then (if is_expired moment f.message then Ended 201 else verdict_event (verdict f.message rows))
    else Ended 410

-- what becomes of the rows
abbrev pub rows_after : ℕ → FlightRow → List Channel → List Row → List Row
rows_after moment f channels rows =
    if is_meant f channels
    then (if is_expired moment f.message then rows else rows_with_stored (verdict f.message rows) f.message rows)
    else rows

-- the message is to become a row
pub record IsJoining (moment : ℕ) (f : FlightRow) (channels : List Channel) (rows : List Row) : Type 0 where
  pub meant : is_meant f channels ≡ true
  pub current : is_expired moment f.message ≡ false
  pub joins : verdict f.message rows ≡ Joins

-- the reply, where the flight moves on so
abbrev pub stored_reply : Advance → Reply
stored_reply (Goes stage) = Stored
stored_reply advance = advance_reply advance NoFlight
