-- Stored rows: which of them a session is sent next, and what comes of a message that is to become one.
use Rattle.std.specs.Prelude.{◌&&◌, ◌∷◌, ◌++◌, nat_lt, nat_le, not, Bool, true, false, List, [], Option, Some, None, find, filter, map, take, length, is_some, if◌then◌else◌}
use Rattle.std.specs.List.{list_any}
use Rattle.push_model.specs.declared.ids.ChannelId.{ChannelId}
use Rattle.push_model.specs.declared.ids.MsgId.{MsgId}
use Rattle.push_model.specs.declared.parts.Row.{Row}
use Rattle.push_model.specs.declared.standing.Stands.{Stands}
use Rattle.push_model.specs.declared.standing.Stands.TheVariants.{Same, Apart, New, Kept}
use Rattle.push_model.specs.declared.standing.Verdict.{Verdict}
use Rattle.push_model.specs.declared.standing.Verdict.TheVariants.{Stays, Older, Full, Joins}
use Rattle.push_model.specs.Names.{is_same_channel, is_same_id}
use Rattle.push_model.specs.MessageValue.{MessageValue}
use Rattle.push_model.specs.Messages.{is_same_topic}
use Rattle.push_model.specs.Keyed.{without_first}

-- ---- tests

abbrev pub is_row : MsgId → Row → Bool
is_row i r = is_same_id r.message.id i

abbrev pub has_topic : Row → Bool
has_topic r = is_some r.message.ask.terms.topic

-- ---- pages: what is sent next to one who was sent those pairs

-- some pair has the id
abbrev pub has_sent : MsgId → List (ChannelId × MsgId) → Bool
has_sent i sent = list_any (λ x. is_same_id x.1 i) sent

abbrev pub is_unsent : List (ChannelId × MsgId) → Row → Bool
is_unsent sent r = not (has_sent r.message.id sent)

-- with a topic, or without
abbrev pub is_kind : Bool → Row → Bool
is_kind true r = has_topic r
is_kind false r = not (has_topic r)

abbrev pub is_next : Bool → List (ChannelId × MsgId) → Row → Bool
is_next topic sent r = is_kind topic r && is_unsent sent r

abbrev pub next_rows : Bool → List (ChannelId × MsgId) → List Row → List Row
next_rows topic sent rows = filter (is_next topic sent) rows

-- the first ten of the kind that weren't sent
abbrev pub row_page : Bool → List (ChannelId × MsgId) → List Row → List MessageValue
row_page topic sent rows = take 10 (map (λ r. r.message) (next_rows topic sent rows))

-- some row of the kind wasn't sent
abbrev pub remains : Bool → List (ChannelId × MsgId) → List Row → Bool
remains topic sent rows = list_any (is_next topic sent) rows

-- ---- a message that is to become a row

-- both have the channel and the topic
abbrev pub is_of_topic : MessageValue → MessageValue → Bool
is_of_topic m k = is_same_channel k.chid m.chid && is_same_topic m.ask.terms.topic k.ask.terms.topic

-- which of two messages stands: the one of the greater id, where both have one channel and topic
abbrev pub stands : MessageValue → MessageValue → Stands
stands m k =
    if is_same_id k.id m.id then Same
    else if not (is_of_topic m k) then Apart
    else if nat_lt k.id.number m.id.number then New
    else Kept

-- the row of the message's channel and topic
abbrev pub shares_topic : MessageValue → Row → Bool
shares_topic m r = is_of_topic m r.message

-- beside that row; at most 1,000 rows are stored
abbrev pub verdict_by : Stands → Verdict
verdict_by Same = Stays
verdict_by Apart = Joins
verdict_by New = Joins
verdict_by Kept = Older

abbrev pub verdict_beside : Option Row → MessageValue → List Row → Verdict
verdict_beside (Some r) m rows = verdict_by (stands m r.message)
verdict_beside None m rows = if nat_le 1000 (length rows) then Full else Joins

-- what comes of the message: a row of this very id stays, and so does a newer one of its channel and topic
abbrev pub verdict : MessageValue → List Row → Verdict
verdict m rows = if list_any (is_row m.id) rows then Stays else verdict_beside (find (shares_topic m) rows) m rows

abbrev pub new_row : MessageValue → Row
new_row m = record { message = m; orphan = false }

-- it is the last, and takes the place of the row of its channel and topic
abbrev pub stored_rows : MessageValue → List Row → List Row
stored_rows m rows = without_first (shares_topic m) rows ++ new_row m ∷ []
