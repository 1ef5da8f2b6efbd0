-- How a saver takes over from a session that is closed: it saves what the session held, and tells of it.
use Rattle.std.specs.Prelude.{ℕ, Bool, List, Option, Some, None, find, is_some, length, nat_lt, not, ◌==◌, ◌++◌, ◌∷◌, [], if◌then◌else◌}
use Rattle.std.specs.List.{list_any}
use Rattle.push_model.specs.declared.ids.MsgId.{MsgId}
use Rattle.push_model.specs.declared.step.Stage.{Stage}
use Rattle.push_model.specs.declared.advance.Event.{Event}
use Rattle.push_model.specs.declared.advance.Advance.{Advance}
use Rattle.push_model.specs.declared.reply.Reply.{Reply}
use Rattle.push_model.specs.declared.standing.Verdict.{Verdict}
use Rattle.push_model.specs.declared.step.Stage.TheVariants.{Nudge as AtNudge, ToldNudge as AtToldNudge, Clear as AtClear, Saving as AtSaving}
use Rattle.push_model.specs.declared.advance.Event.TheVariants.{Heard as HeardOf, Lost as LostOf, Read as ReadPlace, AllSaved as NothingHeld}
use Rattle.push_model.specs.declared.advance.Advance.TheVariants.{Moved as Goes, End as Ends, Out, Absent}
use Rattle.push_model.specs.declared.reply.Reason.TheVariants.{Channel as ChannelGone, Zero, Expired, Replaced}
use Rattle.push_model.specs.declared.standing.Verdict.TheVariants.{Stays, Older, Full, Joins}
use Rattle.push_model.specs.declared.reply.Reply.TheVariants.{NoSession, End, Kept, Cleared, Saving, Saved, Left, AllSaved, Stage as StageIs}
use Rattle.push_model.specs.SessionKey.{SessionKey}
use Rattle.push_model.specs.MessageValue.{MessageValue}
use Rattle.push_model.specs.Messages.{is_expired}
use Rattle.push_model.specs.Keyed.{with_first, without_first}
use Rattle.push_model.specs.Rows.{verdict}
use Rattle.push_model.specs.Sessions.{Session, held, is_attached_at, is_session, session_stage}
use Rattle.push_model.specs.Cells.{Cell, Saver, User, channels_of, cleared_for, is_channel, is_routed_to, is_saver, routed_place, rows_of, with_stored}
use Rattle.push_model.specs.Advances.{saver_advance}
use Rattle.push_model.specs.Outcomes.{Outcome, advance_reply, outcome, read_reply}
use Rattle.push_model.specs.NodeSteps.{told, told_reply}

-- ---- a saver of the user; a session that isn't closed names its own stage

abbrev pub saver : SessionKey → Cell → Option Saver
saver s c = find (is_saver s) c.savers

abbrev pub saver_at : Stage → Saver → Saver
saver_at stage v = record v { stage = stage }

abbrev pub savers_moved : Advance → SessionKey → List Saver → List Saver
savers_moved (Goes stage) s vs = with_first (is_saver s) (saver_at stage) vs
savers_moved (Ends code) s vs = without_first (is_saver s) vs
savers_moved (Out stage) s vs = vs
savers_moved Absent s vs = vs

abbrev pub saver_moved : Advance → SessionKey → Cell → Cell
saver_moved a s c = record c { savers = savers_moved a s c.savers }

abbrev pub has_saved : Saver → Bool
has_saved v = nat_lt 0 (length v.saved)

abbrev pub saver_advance_of : Event → Option Saver → Advance
saver_advance_of event None = Absent
saver_advance_of event (Some v) = saver_advance event (has_saved v) v.stage

abbrev pub unclosed_reply : Option Session → Reply
unclosed_reply None = NoSession
unclosed_reply (Some x) = StageIs (session_stage x)

abbrev pub unclosed : SessionKey → Cell → Reply
unclosed s c = unclosed_reply (find (is_session s) c.sessions)

-- ---- Heard, Lost: what an event alone does

abbrev pub saver_step : Event → SessionKey → Cell → Outcome
saver_step event s c =
    outcome (saver_moved (saver_advance_of event (saver s c)) s c) (advance_reply (saver_advance_of event (saver s c)) (unclosed s c))

abbrev pub saver_heard : SessionKey → Cell → Outcome
saver_heard s c = saver_step HeardOf s c

abbrev pub saver_lost : SessionKey → Cell → Outcome
saver_lost s c = saver_step LostOf s c

-- ---- Reread

abbrev pub saver_reread : SessionKey → Cell → Outcome
saver_reread s c =
    let advance = saver_advance_of (ReadPlace (routed_place c.user)) (saver s c) in
    outcome (saver_moved advance s c) (read_reply advance (unclosed s c))

-- ---- Nudge

abbrev pub saver_nudge_to : Option Session → ℕ → ℕ → SessionKey → Cell → Outcome
saver_nudge_to x n a s c =
    outcome (saver_moved (Goes (AtToldNudge (is_some x) n a)) s (told n x c)) (told_reply x c)

abbrev pub saver_nudge_at : Stage → SessionKey → Cell → Outcome
saver_nudge_at (AtNudge n a) s c = saver_nudge_to (find (is_attached_at n) c.sessions) n a s c
saver_nudge_at stage s c = outcome c (StageIs stage)

abbrev pub saver_nudge_of : Option Saver → SessionKey → Cell → Outcome
saver_nudge_of None s c = outcome c (unclosed s c)
saver_nudge_of (Some v) s c = saver_nudge_at v.stage s c

abbrev pub saver_nudge : SessionKey → Cell → Outcome
saver_nudge s c = saver_nudge_of (saver s c) s c

-- ---- Clear

abbrev pub saver_clear_at : Stage → SessionKey → Cell → Outcome
saver_clear_at (AtClear n a) s c =
    outcome (record c { user = cleared_for n a c.user; savers = without_first (is_saver s) c.savers }) (End 200)
saver_clear_at stage s c = outcome c (StageIs stage)

abbrev pub saver_clear_of : Option Saver → SessionKey → Cell → Outcome
saver_clear_of None s c = outcome c (unclosed s c)
saver_clear_of (Some v) s c = saver_clear_at v.stage s c

abbrev pub saver_clear : SessionKey → Cell → Outcome
saver_clear s c = saver_clear_of (saver s c) s c

-- ---- Close: the session becomes a saver

abbrev pub new_saver : Session → Saver
new_saver x = record { node = x.node; at = x.at; held = held x; saved = []; stage = AtSaving }

abbrev pub touched : ℕ → Option User → Option User
touched moment None = None
touched moment (Some u) = Some (record u { route = record (u.route) { touched = moment } })

abbrev pub closed_reply : Option Saver → Reply
closed_reply None = NoSession
closed_reply (Some v) = StageIs v.stage

abbrev pub close_of : Option Session → ℕ → SessionKey → Cell → Outcome
close_of None moment s c = outcome c (closed_reply (saver s c))
close_of (Some x) moment s c =
    outcome (record c { user = touched moment c.user; sessions = without_first (is_session s) c.sessions; savers = c.savers ++ new_saver x ∷ [] }) (Saving (length (held x)))

abbrev pub close : ℕ → SessionKey → Cell → Outcome
close moment s c = close_of (find (is_session s) c.sessions) moment s c

-- ---- Release: the route row loses the closed session

abbrev pub release_at : Stage → SessionKey → Cell → Outcome
release_at AtSaving s c =
    outcome (record c { user = cleared_for s.node s.at c.user }) (if is_routed_to s.node s.at c.user then Cleared else Kept)
release_at stage s c = outcome c (StageIs stage)

abbrev pub release_of : Option Saver → SessionKey → Cell → Outcome
release_of None s c = outcome c (unclosed s c)
release_of (Some v) s c = release_at v.stage s c

abbrev pub release : SessionKey → Cell → Outcome
release s c = release_of (saver s c) s c

-- ---- SaveOne: the saver's next message becomes a row, or is left

abbrev pub with_held : List MessageValue → Saver → Saver
with_held ms v = record v { held = ms }

abbrev pub with_saved : MsgId → List MessageValue → Saver → Saver
with_saved i ms v = record v { held = ms; saved = v.saved ++ i ∷ [] }

abbrev pub with_saver : SessionKey → (Saver → Saver) → Cell → Cell
with_saver s f c = record c { savers = with_first (is_saver s) f c.savers }

-- it is left
abbrev pub left : SessionKey → List MessageValue → Cell → Cell
left s ms c = with_saver s (with_held ms) c

-- it is a row
abbrev pub saved : SessionKey → MsgId → List MessageValue → Cell → Cell
saved s i ms c = with_saver s (with_saved i ms) c

-- it becomes the last row
abbrev pub saved_row : SessionKey → MessageValue → List MessageValue → Cell → Outcome
saved_row s m ms c = outcome (record (saved s m.id ms c) { user = with_stored m c.user }) (Saved m.id)

-- by what comes of the message among the rows, of which there may be more than 1,000 here
abbrev pub save_by : Verdict → SessionKey → MessageValue → List MessageValue → Cell → Outcome
save_by Stays s m ms c = outcome (saved s m.id ms c) (Saved m.id)
save_by Older s m ms c = outcome (left s ms c) (Left m.id Replaced)
save_by Full s m ms c = saved_row s m ms c
save_by Joins s m ms c = saved_row s m ms c

abbrev pub save_message : ℕ → SessionKey → MessageValue → List MessageValue → Cell → Outcome
save_message moment s m ms c =
    if not (list_any (is_channel m.chid) (channels_of c.user))
    then outcome (left s ms c) (Left m.id ChannelGone)
    else if m.ask.terms.ttl == 0
    then outcome (left s ms c) (Left m.id Zero)
    else if is_expired moment m
    then outcome (left s ms c) (Left m.id Expired)
    else save_by (verdict m (rows_of c.user)) s m ms c

abbrev pub save_held : List MessageValue → ℕ → SessionKey → Cell → Outcome
save_held [] moment s c = outcome (saver_moved (saver_advance_of NothingHeld (saver s c)) s c) AllSaved
save_held (m ∷ ms) moment s c = save_message moment s m ms c

abbrev pub save_at : Stage → List MessageValue → ℕ → SessionKey → Cell → Outcome
save_at AtSaving ms moment s c = save_held ms moment s c
save_at stage ms moment s c = outcome c (StageIs stage)

abbrev pub save_of : Option Saver → ℕ → SessionKey → Cell → Outcome
save_of None moment s c = outcome c (unclosed s c)
save_of (Some v) moment s c = save_at v.stage v.held moment s c

abbrev pub save : ℕ → SessionKey → Cell → Outcome
save moment s c = save_of (saver s c) moment s c
