-- What the steps of a session do: how it is attached, its channels, its messages, and how it is routed again.
use Rattle.std.specs.Prelude.{ℕ, Bool, false, List, Option, Some, None, find, is_some, is_none, filter, map, nat_lt, not, ◌==◌, ◌&&◌, ◌++◌, ◌∷◌, [], if◌then◌else◌}
use Rattle.std.specs.List.{list_any}
use Rattle.push_model.specs.declared.ids.ChannelId.{ChannelId}
use Rattle.push_model.specs.declared.ids.MsgId.{MsgId}
use Rattle.push_model.specs.declared.ids.Token.{Token}
use Rattle.push_model.specs.declared.parts.Channel.{Channel}
use Rattle.push_model.specs.declared.parts.Row.{Row}
use Rattle.push_model.specs.declared.reply.AckedFrom.TheVariants.{Direct as FromDirect, Stored as FromStored}
use Rattle.push_model.specs.declared.reply.Reply.TheVariants.{NoSession, NotClaimed, Outrun, Attached, Endpoint, Page, Acked, Unknown, Done, Renewed, Kept}
use Rattle.push_model.specs.Names.{is_same_channel}
use Rattle.push_model.specs.SessionKey.{SessionKey}
use Rattle.push_model.specs.Keyed.{with_first, without_first}
use Rattle.push_model.specs.Rows.{is_row}
use Rattle.push_model.specs.Sessions.{Session, acked_in, checked, displaced, forgot, has_direct, is_attached, is_attached_at, new_session, next_page, taken, was_sent}
use Rattle.push_model.specs.Cells.{Cell, User, channels_of, is_channel, is_claim, unmarked, unmarked_for}
use Rattle.push_model.specs.Outcomes.{Outcome, outcome}
use Rattle.push_model.specs.UserSteps.{claimed_user}

-- ---- Attach

-- the session joins, and where the route row names it, it takes over the user's orphans
abbrev pub joined : SessionKey → List Session → Cell → Cell
joined s beside c = record c { user = unmarked_for s.node s.at c.user; sessions = beside ++ new_session s ∷ [] }

abbrev pub attach_beside : Option Session → SessionKey → Cell → Outcome
attach_beside None s c = outcome (joined s c.sessions c) (Attached None)
attach_beside (Some other) s c =
    if nat_lt s.at other.at
    then outcome c (Outrun other.at)
    else outcome (joined s (with_first (is_attached_at s.node) displaced c.sessions) c) (Attached (Some other.at))

-- the claim is taken out, also where a newer session is attached there
abbrev pub attach : SessionKey → Cell → Outcome
attach s c =
    if list_any (is_claim s) c.claims
    then attach_beside (find (is_attached_at s.node) c.sessions) s (record c { claims = without_first (is_claim s) c.claims })
    else outcome c NotClaimed

-- ---- a session that is attached

abbrev pub attached : SessionKey → Cell → Option Session
attached s c = find (is_attached s) c.sessions

abbrev pub with_session : SessionKey → (Session → Session) → Cell → Cell
with_session s f c = record c { sessions = with_first (is_attached s) f c.sessions }

-- ---- Register

abbrev pub with_channel : ChannelId → Token → Option User → Option User
with_channel h t None = None
with_channel h t (Some u) = Some (record u { channels = u.channels ++ record { chid = h; token = t } ∷ [] })

abbrev pub register_beside : Option Channel → ChannelId → Token → Cell → Outcome
register_beside (Some x) h t c = outcome c (Endpoint x.token)
register_beside None h t c = outcome (record c { user = with_channel h t c.user }) (Endpoint t)

abbrev pub register : SessionKey → ChannelId → Token → Cell → Outcome
register s h t c =
    if is_some (attached s c)
    then register_beside (find (is_channel h) (channels_of c.user)) h t c
    else outcome c NoSession

-- the session is attached, and its user hasn't the channel
abbrev pub lacks : SessionKey → ChannelId → Cell → Bool
lacks s h c = is_some (attached s c) && not (list_any (is_channel h) (channels_of c.user))

-- ---- Unregister: the channel goes, with its rows and what was sent of it

abbrev pub is_other_row : ChannelId → Row → Bool
is_other_row h r = not (is_same_channel r.message.chid h)

abbrev pub without_channel : ChannelId → Option User → Option User
without_channel h None = None
without_channel h (Some u) =
    Some (record u { channels = filter (λ x. not (is_channel h x)) u.channels; rows = filter (is_other_row h) u.rows })

abbrev pub unregister : SessionKey → ChannelId → Cell → Outcome
unregister s h c =
    if is_some (attached s c)
    then outcome (record c { user = without_channel h c.user; sessions = map (forgot h) c.sessions }) Done
    else outcome c NoSession

-- ---- TakeDirect

abbrev pub take_direct_of : Option Session → ℕ → SessionKey → Cell → Outcome
take_direct_of None moment s c = outcome c NoSession
take_direct_of (Some x) moment s c = outcome (with_session s (taken moment) c) (Page (next_page moment x))

abbrev pub take_direct : ℕ → SessionKey → Cell → Outcome
take_direct moment s c = take_direct_of (attached s c) moment s c

-- ---- Ack: the message leaves the session's lists, and the row with that very id is deleted

abbrev pub without_row : MsgId → Option User → Option User
without_row i None = None
without_row i (Some u) = Some (record u { rows = without_first (is_row i) u.rows })

abbrev pub acked : SessionKey → ChannelId → MsgId → Cell → Cell
acked s h i c = record (with_session s (acked_in h i) c) { user = without_row i c.user }

abbrev pub ack_of : Option Session → SessionKey → ChannelId → MsgId → Cell → Outcome
ack_of None s h i c = outcome c NoSession
ack_of (Some x) s h i c =
    if has_direct h i x
    then outcome (acked s h i c) (Acked FromDirect)
    else if was_sent h i x
    then outcome (acked s h i c) (Acked FromStored)
    else outcome c Unknown

abbrev pub ack : SessionKey → ChannelId → MsgId → Cell → Outcome
ack s h i c = ack_of (attached s c) s h i c

-- ---- Renew: the route row takes the session again, where it lost its node

-- the route row has the session's moment and no node
abbrev pub is_renewable : SessionKey → Option User → Bool
is_renewable s None = false
is_renewable s (Some u) = (u.route.at == s.at) && is_none u.route.node

abbrev pub renewed : ℕ → SessionKey → Option User → Option User
renewed moment s None = None
renewed moment s (Some u) = unmarked (Some (claimed_user moment s u))

abbrev pub renew : ℕ → SessionKey → Cell → Outcome
renew moment s c =
    if is_some (attached s c)
    then (if is_renewable s c.user then outcome (record (with_session s checked c) { user = renewed moment s c.user }) Renewed else outcome c Kept)
    else outcome c NoSession
