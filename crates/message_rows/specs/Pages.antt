-- How a page of rows grows.
use Rattle.std.specs.Prelude.{Bool, List, [], ◌∷◌, ◌++◌, ◌&&◌, nat_lt, length, if◌then◌else◌}
use Rattle.push_model.specs.declared.ids.ChannelId.{ChannelId}
use Rattle.push_model.specs.declared.ids.MsgId.{MsgId}
use Rattle.push_model.specs.declared.parts.Row.{Row}
use Rattle.push_model.specs.MessageValue.{MessageValue}
use Rattle.push_model.specs.Rows.{is_next}

-- the page with the row's message, where there is room and the row is to be sent next
abbrev pub page_with : Bool → List (ChannelId × MsgId) → Row → List MessageValue → List MessageValue
page_with topic sent r page = if nat_lt (length page) 10 && is_next topic sent r then page ++ r.message ∷ [] else page
