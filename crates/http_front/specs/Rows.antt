-- Which status code and which number a refusal has, and how it is told.
use Rattle.std.specs.Prelude.{◌≡◌, ℕ, ◌==◌, Bool, List, Option, Some, None, Result, Ok, Err, codes, if◌then◌else◌}
use Rattle.push_model.specs.declared.ids.MsgId.{MsgId}
use Rattle.push_headers.specs.declared.check.HeadFault.{HeadFault}
use Rattle.push_headers.specs.declared.check.HeadFault.TheVariants.{MissingTtl, BadTtl, BadTopic, BadUrgency, BadEncoding}
use Rattle.push_json.specs.Bodies.{IsRow, error_body}
use Rattle.http_wire.specs.Replies.{IsKnown, reply_text}
use Rattle.endpoint_router.specs.declared.answer.Answer.{Answer}
use Rattle.endpoint_router.specs.declared.answer.Answer.TheVariants.{Created, Gone, Full, IdsSpent}
use Rattle.http_front.specs.declared.fault.Fault.{Fault}
use Rattle.http_front.specs.declared.fault.Fault.TheVariants.{UnknownPath, WrongMethod, LongBody, Head, BadToken}
use Rattle.http_front.specs.declared.refusal.Refusal.{Refusal}

abbrev pub refusal : ℕ → ℕ → Refusal
refusal code errno = record { code = code; errno = errno }

abbrev pub head_row : HeadFault → Refusal
head_row MissingTtl = refusal 400 111
head_row BadTtl = refusal 400 112
head_row BadTopic = refusal 400 113
head_row BadUrgency = refusal 400 114
head_row BadEncoding = refusal 400 110

abbrev pub fault_row : Fault → Refusal
fault_row UnknownPath = refusal 404 101
fault_row WrongMethod = refusal 405 105
fault_row LongBody = refusal 413 104
fault_row (Head fault) = head_row fault
fault_row BadToken = refusal 404 102

-- what a route answers: the message that was taken and for how long it is kept, or a refusal
abbrev pub answer_row : Answer → Result (MsgId × ℕ) Refusal
answer_row (Created i ttl) = Ok (i, ttl)
answer_row Gone = Err (refusal 410 103)
answer_row Full = Err (refusal 503 202)
answer_row IdsSpent = Err (refusal 503 203)

-- its code and its number are those of one refusal, and its code has a phrase and may have a body
pub record IsTellable (r : Refusal) : Type 0 where
  pub row : IsRow r.code r.errno
  pub known : IsKnown r.code
  pub bodied : r.code ≡ 204 → ⊥

-- ---- texts

-- the methods that a refusal names
abbrev pub allowed : ℕ → Option (List ℕ)
allowed code = if code == 405 then Some (codes "POST") else None

abbrev pub refusal_text : Refusal → Bool → List ℕ
refusal_text r close = reply_text r.code (allowed r.code) close (Some (error_body r.code r.errno)) None None

-- the body where memory was wanted, which is one constant text
abbrev pub memory_body : List ℕ
memory_body = codes "{\"code\":500,\"errno\":900,\"error\":\"Internal Server Error\",\"message\":\"Out of memory\"}"

abbrev pub memory_text : Bool → List ℕ
memory_text close = reply_text 500 None close (Some memory_body) None None

-- the message was taken
abbrev pub created_text : MsgId → ℕ → Bool → List ℕ
created_text i ttl close = reply_text 201 None close None (Some i) (Some ttl)
