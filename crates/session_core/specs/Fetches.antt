-- How a session is sent a page.
use Rattle.std.specs.Prelude.{◌≡◌, ◌++◌, Bool, List, map, if◌then◌else◌}
use Rattle.push_model.specs.declared.parts.Row.{Row}
use Rattle.push_model.specs.declared.step.Fetch.{Fetch}
use Rattle.push_model.specs.declared.step.Fetch.TheVariants.{Idle, Topic, Plain}
use Rattle.push_model.specs.MessageValue.{MessageValue}
use Rattle.push_model.specs.Rows.{row_page, remains}
use Rattle.push_model.specs.Sessions.{Session, checked, fetched, sent_pair}

-- after the page with topics comes the one without
abbrev pub next_fetch : Fetch → Fetch
next_fetch Topic = Plain
next_fetch Plain = Idle
next_fetch Idle = Idle

abbrev pub sent_page : List MessageValue → Session → Session
sent_page page x = record x { sent = x.sent ++ map sent_pair page; fetch = next_fetch x.fetch }

-- it is to look again, where that is so
abbrev pub checked_where : Bool → Session → Session
checked_where more x = if more then checked x else x

-- where it was sent the next page of those rows, and is to look again where more remain, it has fetched that page
abbrev pub IsFetched : Bool → List Row → List MessageValue → Session → Session → Type 0
IsFetched topic rows page old new =
    page ≡ row_page topic old.sent rows → checked_where (remains topic new.sent rows) new ≡ fetched topic (next_fetch old.fetch) rows old
