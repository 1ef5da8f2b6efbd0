-- How a session looks at the stored rows: the next ten with a topic, then the next ten without.
use Rattle.std.specs.Prelude.{Bool, true, false, Option, Some, None, if◌then◌else◌}
use Rattle.push_model.specs.declared.step.Fetch.{Fetch}
use Rattle.push_model.specs.declared.step.Fetch.TheVariants.{Idle, Topic, Plain}
use Rattle.push_model.specs.declared.reply.Reply.TheVariants.{NoSession, Due, NotDue, Page, Stage as StageIs}
use Rattle.push_model.specs.SessionKey.{SessionKey}
use Rattle.push_model.specs.Rows.{row_page}
use Rattle.push_model.specs.Sessions.{Session, fetch_stage, fetched, fetching, is_due}
use Rattle.push_model.specs.Cells.{Cell, rows_of}
use Rattle.push_model.specs.Outcomes.{Outcome, outcome}
use Rattle.push_model.specs.SessionSteps.{attached, with_session}

-- ---- TakeCheck

abbrev pub take_check_of : Option Session → SessionKey → Cell → Outcome
take_check_of None s c = outcome c NoSession
take_check_of (Some x) s c = if is_due x then outcome (with_session s fetching c) Due else outcome c NotDue

abbrev pub take_check : SessionKey → Cell → Outcome
take_check s c = take_check_of (attached s c) s c

-- ---- FetchTopic and FetchPlain

abbrev pub fetch_page : Bool → Fetch → Session → SessionKey → Cell → Outcome
fetch_page topic next x s c =
    outcome (with_session s (fetched topic next (rows_of c.user)) c) (Page (row_page topic x.sent (rows_of c.user)))

abbrev pub fetch_topic_at : Fetch → Session → SessionKey → Cell → Outcome
fetch_topic_at Topic x s c = fetch_page true Plain x s c
fetch_topic_at fetch x s c = outcome c (StageIs (fetch_stage fetch))

abbrev pub fetch_topic_of : Option Session → SessionKey → Cell → Outcome
fetch_topic_of None s c = outcome c NoSession
fetch_topic_of (Some x) s c = fetch_topic_at x.fetch x s c

abbrev pub fetch_topic : SessionKey → Cell → Outcome
fetch_topic s c = fetch_topic_of (attached s c) s c

abbrev pub fetch_plain_at : Fetch → Session → SessionKey → Cell → Outcome
fetch_plain_at Plain x s c = fetch_page false Idle x s c
fetch_plain_at fetch x s c = outcome c (StageIs (fetch_stage fetch))

abbrev pub fetch_plain_of : Option Session → SessionKey → Cell → Outcome
fetch_plain_of None s c = outcome c NoSession
fetch_plain_of (Some x) s c = fetch_plain_at x.fetch x s c

abbrev pub fetch_plain : SessionKey → Cell → Outcome
fetch_plain s c = fetch_plain_of (attached s c) s c
