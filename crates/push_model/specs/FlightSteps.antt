-- How a flight takes a message to the user: it is given to a session, or stored and told of.
use Rattle.std.specs.Prelude.{ℕ, Bool, true, false, Option, Some, None, find, is_some, not, ◌==◌, ◌&&◌, ◌++◌, ◌∷◌, [], if◌then◌else◌}
use Rattle.push_model.specs.declared.ids.Token.{Token}
use Rattle.push_model.specs.declared.ids.Op.{Op}
use Rattle.push_model.specs.declared.parts.FlightRow.{FlightRow}
use Rattle.push_model.specs.declared.step.Stage.{Stage}
use Rattle.push_model.specs.declared.advance.Event.{Event}
use Rattle.push_model.specs.declared.advance.Advance.{Advance}
use Rattle.push_model.specs.declared.standing.Verdict.{Verdict}
use Rattle.push_model.specs.declared.step.Stage.TheVariants.{Direct as AtDirect, Told, Store as AtStore, Reread as AtReread, Nudge as AtNudge, ToldNudge as AtToldNudge, Clear as AtClear}
use Rattle.push_model.specs.declared.advance.Event.TheVariants.{Heard as HeardOf, Lost as LostOf, GiveUp as GivenUp, Read as ReadPlace}
use Rattle.push_model.specs.declared.standing.Verdict.TheVariants.{Stays, Older, Full, Joins}
use Rattle.push_model.specs.declared.reply.Reply.TheVariants.{NoFlight, Begun, Here, NotHere, Stored, End, Stage as StageIs}
use Rattle.push_model.specs.MessageValue.{MessageValue}
use Rattle.push_model.specs.Messages.{is_expired}
use Rattle.push_model.specs.Keyed.{with_first, without_first}
use Rattle.push_model.specs.Rows.{verdict}
use Rattle.push_model.specs.Sessions.{Session, given, has_room, is_attached_at}
use Rattle.push_model.specs.Cells.{Cell, User, cleared_for, has_token, is_flight, routed_place, rows_of, with_stored}
use Rattle.push_model.specs.Advances.{advance_of, advanced, at_stage}
use Rattle.push_model.specs.Outcomes.{Outcome, advance_reply, outcome, read_reply}
use Rattle.push_model.specs.NodeSteps.{told, told_reply}

-- ---- Begin: the message goes to the routed session, else into the table, or, with ttl 0, nowhere

abbrev pub with_flight : Op → Token → MessageValue → Stage → Cell → Cell
with_flight o t m stage c =
    record c { flights = c.flights ++ record { op = o; message = m; token = t; stage = stage } ∷ [] }

abbrev pub begin_to : Option (ℕ × ℕ) → Op → Token → MessageValue → Cell → Outcome
begin_to (Some p) o t m c = outcome (with_flight o t m (AtDirect p.0 p.1) c) (Begun m.id (Some p))
begin_to None o t m c =
    if m.ask.terms.ttl == 0
    then outcome c (Begun m.id None)
    else outcome (with_flight o t m AtStore c) (Begun m.id None)

abbrev pub begin : Op → Token → MessageValue → Cell → Outcome
begin o t m c = begin_to (routed_place c.user) o t m c

-- ---- a flight of the user

abbrev pub flight : Op → Cell → Option FlightRow
flight o c = find (is_flight o) c.flights

-- the flight moves on so
abbrev pub moved_on : Advance → Op → Cell → Cell
moved_on a o c = record c { flights = advanced a o c.flights }

abbrev pub with_stage : Op → Stage → Cell → Cell
with_stage o stage c = record c { flights = with_first (is_flight o) (at_stage stage) c.flights }

abbrev pub without_flight : Op → Cell → Cell
without_flight o c = record c { flights = without_first (is_flight o) c.flights }

-- the flight ends, and its sender is answered that code
abbrev pub answered : ℕ → Op → Cell → Outcome
answered code o c = outcome (without_flight o c) (End code)

-- ---- Heard, Lost, GiveUp: what an event alone does

-- what an event alone does
abbrev pub flight_step : Event → Op → Cell → Outcome
flight_step event o c =
    outcome (moved_on (advance_of event (flight o c)) o c) (advance_reply (advance_of event (flight o c)) NoFlight)

abbrev pub heard : Op → Cell → Outcome
heard o c = flight_step HeardOf o c

abbrev pub lost : Op → Cell → Outcome
lost o c = flight_step LostOf o c

abbrev pub give_up : Op → Cell → Outcome
give_up o c = flight_step GivenUp o c

-- ---- Direct

-- that session can be given the message of a flight of that user
abbrev pub can_give : Option Session → ℕ → FlightRow → Option User → Bool
can_give None moment f user = false
can_give (Some x) moment f user = has_room x && has_token f.message.chid f.token user && not (is_expired moment f.message)

abbrev pub with_given : ℕ → MessageValue → Cell → Cell
with_given n m c = record c { sessions = with_first (is_attached_at n) (given m) c.sessions }

abbrev pub direct_to : ℕ → ℕ → Op → FlightRow → Cell → Outcome
direct_to n moment o f c =
    if can_give (find (is_attached_at n) c.sessions) moment f c.user
    then outcome (with_stage o (Told true) (with_given n f.message c)) (Here c.uaid)
    else outcome (with_stage o (Told false) c) NotHere

abbrev pub direct_at : Stage → ℕ → Op → FlightRow → Cell → Outcome
direct_at (AtDirect n a) moment o f c = direct_to n moment o f c
direct_at stage moment o f c = outcome c (StageIs stage)

abbrev pub direct_of : Option FlightRow → ℕ → Op → Cell → Outcome
direct_of None moment o c = outcome c NoFlight
direct_of (Some f) moment o c = direct_at f.stage moment o f c

abbrev pub direct : ℕ → Op → Cell → Outcome
direct moment o c = direct_of (flight o c) moment o c

-- ---- Store: the message becomes the user's last row, in place of a row of its channel and topic

abbrev pub stored : Op → MessageValue → Cell → Outcome
stored o m c = outcome (record (with_stage o AtReread c) { user = with_stored m c.user }) Stored

-- by what comes of the message among the rows
abbrev pub store_by : Verdict → Op → MessageValue → Cell → Outcome
store_by Stays o m c = outcome (with_stage o AtReread c) Stored
store_by Older o m c = answered 201 o c
store_by Full o m c = answered 503 o c
store_by Joins o m c = stored o m c

abbrev pub store_message : ℕ → Op → FlightRow → Cell → Outcome
store_message moment o f c =
    if has_token f.message.chid f.token c.user
    then (if is_expired moment f.message then answered 201 o c else store_by (verdict f.message (rows_of c.user)) o f.message c)
    else answered 410 o c

abbrev pub store_at : Stage → ℕ → Op → FlightRow → Cell → Outcome
store_at AtStore moment o f c = store_message moment o f c
store_at stage moment o f c = outcome c (StageIs stage)

abbrev pub store_of : Option FlightRow → ℕ → Op → Cell → Outcome
store_of None moment o c = outcome c NoFlight
store_of (Some f) moment o c = store_at f.stage moment o f c

abbrev pub store : ℕ → Op → Cell → Outcome
store moment o c = store_of (flight o c) moment o c

-- ---- Reread: the route row names a session to nudge, or none

abbrev pub reread : Op → Cell → Outcome
reread o c =
    let advance = advance_of (ReadPlace (routed_place c.user)) (flight o c) in
    outcome (moved_on advance o c) (read_reply advance NoFlight)

-- ---- Nudge

abbrev pub nudge_to : Option Session → ℕ → ℕ → Op → Cell → Outcome
nudge_to x n a o c = outcome (with_stage o (AtToldNudge (is_some x) n a) (told n x c)) (told_reply x c)

abbrev pub nudge_at : Stage → Op → Cell → Outcome
nudge_at (AtNudge n a) o c = nudge_to (find (is_attached_at n) c.sessions) n a o c
nudge_at stage o c = outcome c (StageIs stage)

abbrev pub nudge_of : Option FlightRow → Op → Cell → Outcome
nudge_of None o c = outcome c NoFlight
nudge_of (Some f) o c = nudge_at f.stage o c

abbrev pub nudge : Op → Cell → Outcome
nudge o c = nudge_of (flight o c) o c

-- ---- Clear: the route row loses the session that could not be told

abbrev pub clear_at : Stage → Op → Cell → Outcome
clear_at (AtClear n a) o c =
    outcome (without_flight o (record c { user = cleared_for n a c.user })) (End 201)
clear_at stage o c = outcome c (StageIs stage)

abbrev pub clear_of : Option FlightRow → Op → Cell → Outcome
clear_of None o c = outcome c NoFlight
clear_of (Some f) o c = clear_at f.stage o c

abbrev pub clear : Op → Cell → Outcome
clear o c = clear_of (flight o c) o c
