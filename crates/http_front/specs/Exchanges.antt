-- A request of a connection, and its answer.
use Rattle.std.specs.Prelude.{◌≡◌, ◌⊎◌, ℕ, ◌+◌, ◌/◌, ◌^◌, nat_le, Bool, List, [], ◌∷◌, Option, Some, None, is_some, Result, Ok, Err, if◌then◌else◌}
use Rattle.push_model.specs.declared.entry.NoMemory.{NoMemory}
use Rattle.push_model.specs.declared.ids.MsgId.{MsgId}
use Rattle.push_model.specs.declared.ids.Op.{Op}
use Rattle.push_model.specs.declared.ids.Token.{Token}
use Rattle.push_model.specs.declared.mail.MailChange.TheVariants.{Post}
use Rattle.push_model.specs.AskValue.{AskValue}
use Rattle.push_model.specs.DeskViews.{DeskView, Made, Mails, Written}
use Rattle.push_outside.specs.Moments.{IsMomentOf}
use Rattle.http_wire.specs.declared.body.Body.{Body}
use Rattle.http_wire.specs.declared.body.Body.TheVariants.{Bytes, TooLong}
use Rattle.http_wire.specs.declared.request.Request.{Request}
use Rattle.http_wire.specs.HeadValue.{HeadValue}
use Rattle.http_wire.specs.Requests.{IsRequest}
use Rattle.endpoint_router.specs.declared.answer.Answer.{Answer}
use Rattle.endpoint_router.specs.Routes.{IsRoute}
use Rattle.endpoint_router.specs.Shards.{shard_of}
use Rattle.http_front.specs.declared.ends.HttpEnd.{HttpEnd}
use Rattle.http_front.specs.declared.ends.HttpEnd.TheVariants.{Asked, Limit, LongBody, OpsSpent}
use Rattle.http_front.specs.declared.outcome.Outcome.{Outcome}
use Rattle.http_front.specs.declared.outcome.Outcome.TheVariants.{Faulty, Unread, Routed}
use Rattle.http_front.specs.declared.refusal.Refusal.{Refusal}
use Rattle.http_front.specs.Connections.{is_last}
use Rattle.http_front.specs.Faults.{AsksFor, first_fault}
use Rattle.http_front.specs.Rows.{answer_row, created_text, fault_row, memory_text, refusal_text}

-- ---- what a request comes to

abbrev pub op : ℕ → ℕ → Op
op pass k = record { pass = pass; k = k }

-- Its message was routed as the flight n, for the token and with what it asks for, on that token's shard, at the second at which
-- the clock stood. This was answered, and these entries were made.
pub record IsRouted (v : DeskView) (moment : Option ℕ) (n : ℕ) (r : Request) (answer : Result Answer NoMemory) (ms : List Made) : Type 0 where
  pub token : Token
  pub ask : AskValue
  pub asks : AsksFor r token ask
  pub millis : ℕ
  pub told : IsMomentOf moment millis
  pub route : IsRoute (shard_of token v.size) (op (v.number (shard_of token v.size)) n) (millis / 1000) token ask answer ms

-- A request with a fault makes no entry; nor does one that there was no memory to read.
abbrev pub ComesTo : DeskView → Option ℕ → ℕ → Request → Outcome → List Made → Type 0
ComesTo v moment n r (Faulty fault) ms = (first_fault r ≡ Some fault) × (ms ≡ [])
ComesTo v moment n r Unread ms = ms ≡ []
ComesTo v moment n r (Routed answer) ms = (first_fault r ≡ None) × IsRouted v moment n r answer ms

-- how many numbers of flights it takes
abbrev pub numbers_used : Outcome → ℕ
numbers_used (Routed answer) = 1
numbers_used _ = 0

-- ---- what is told of it

-- a refusal is told by its text, or, where there was no memory for that, by the one for want of memory
abbrev pub TellsRefusal : Refusal → Bool → List ℕ → Type 0
TellsRefusal refusal close text = (text ≡ refusal_text refusal close) ⊎ (text ≡ memory_text close)

abbrev pub TellsRow : Result (MsgId × ℕ) Refusal → Bool → List ℕ → Type 0
TellsRow (Ok taken) close text = text ≡ created_text taken.0 taken.1 close
TellsRow (Err refusal) close text = TellsRefusal refusal close text

abbrev pub TellsAnswer : Result Answer NoMemory → Bool → List ℕ → Type 0
TellsAnswer (Ok answer) close text = TellsRow (answer_row answer) close text
TellsAnswer (Err e) close text = text ≡ memory_text close

abbrev pub Tells : Outcome → Bool → List ℕ → Type 0
Tells (Faulty fault) close text = TellsRefusal (fault_row fault) close text
Tells Unread close text = text ≡ memory_text close
Tells (Routed answer) close text = TellsAnswer answer close text

-- ---- what ends the connection after it

abbrev pub asked_end : HeadValue → Option HttpEnd
asked_end h = if is_last h then Some Asked else None

abbrev pub body_end : Body → HeadValue → Option HttpEnd
body_end TooLong h = Some LongBody
body_end (Bytes payload) h = asked_end h

-- by the request itself
abbrev pub request_end : Request → Option HttpEnd
request_end r = body_end r.body r.head

abbrev pub spent_end : ℕ → Option HttpEnd
spent_end n = if nat_le (2 ^ 63) n then Some OpsSpent else None

-- by how many were answered, and by the number of the next flight
abbrev pub count_end : ℕ → ℕ → Option HttpEnd
count_end count n = if nat_le 1000 count then Some Limit else spent_end n

abbrev pub or_end : Option HttpEnd → Option HttpEnd → Option HttpEnd
or_end (Some e) other = Some e
or_end None other = other

abbrev pub end_after : Option HttpEnd → ℕ → ℕ → Option HttpEnd
end_after wish count n = or_end wish (count_end count n)

-- ---- a whole exchange

pub record Exchange : Type 0 where
  pub text : List ℕ
  pub request : Request
  pub outcome : Outcome
  pub entries : List Made
  pub reply : List ℕ

-- the end that comes after it, if one does, where it is the one of that count and the next flight is n before it
abbrev pub exchange_end : Exchange → ℕ → ℕ → Option HttpEnd
exchange_end x count n = end_after (request_end x.request) count (n + numbers_used x.outcome)

-- The text of a request was read, and this is what it came to, and what was told of it; where the connection ends after it, the
-- reply says so.
pub record IsAnswered (v : DeskView) (moment : Option ℕ) (count n : ℕ) (x : Exchange) : Type 0 where
  pub is : IsRequest x.text x.request
  pub comes : ComesTo v moment n x.request x.outcome x.entries
  pub tells : Tells x.outcome (is_some (exchange_end x count n)) x.reply

-- ---- mail

-- bits were set in mail words
abbrev pub ArePosts : List Written → Type 0
ArePosts [] = Unit {0}
ArePosts (w ∷ ws) = ((bits : ℕ) × (w.change ≡ Post bits)) × ArePosts ws

-- of mail nothing was done but that
abbrev pub OnlyPosts : DeskView → DeskView → Type 0
OnlyPosts a b = (ws : List Written) × ArePosts ws × Mails a b ws
