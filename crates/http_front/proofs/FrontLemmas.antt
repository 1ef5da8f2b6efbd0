-- Requests that were read are sound, and every refusal can be told.
use Rattle.std.proofs.Common.{◌≡◌, ◌≤◌, ℕ, List, length, refl, sym, ap, subst, arith}
use Rattle.std.specs.Prelude.{IfErr}
use Rattle.http_wire.specs.declared.framing.Framing.{Framing}
use Rattle.http_wire.specs.declared.framing.Framing.TheVariants.{Length, Chunked}
use Rattle.http_wire.specs.declared.body.Body.{Body}
use Rattle.http_wire.specs.declared.body.Body.TheVariants.{Bytes, TooLong}
use Rattle.http_wire.specs.declared.request.Request.{Request}
use Rattle.http_wire.specs.Requests.{IsBody, IsRequest}
use Rattle.push_headers.specs.declared.check.HeadFault.{HeadFault}
use Rattle.push_headers.specs.declared.check.HeadFault.TheVariants.{MissingTtl, BadTtl, BadTopic, BadUrgency, BadEncoding}
use Rattle.endpoint_router.specs.declared.answer.Answer.{Answer}
use Rattle.endpoint_router.specs.declared.answer.Answer.TheVariants.{Created, Gone, Full, IdsSpent}
use Rattle.http_front.specs.declared.fault.Fault.{Fault}
use Rattle.http_front.specs.declared.fault.Fault.TheVariants.{UnknownPath, WrongMethod, LongBody, Head, BadToken}
use Rattle.http_front.specs.Faults.{IsShort, IsSound}
use Rattle.http_front.specs.Rows.{IsTellable, answer_row, fault_row, head_row}

-- ---- requests

short_as : (n : ℕ) (b : List ℕ) → length b ≡ n → n ≤ 4096 → length b ≤ 4096
short_as n b e le = omega (arith, e, le)

short_of : (f : Framing) (text : List ℕ) (body : Body) → IsBody f text body → IsShort body
short_of (Length n) text (Bytes b) h = short_as n b h.0 h.1
short_of (Length n) text TooLong h = tt
short_of Chunked text (Bytes b) h = subst (λ (z : List ℕ). length z ≤ 4096) (sym h.body_is) h.are.small
short_of Chunked text TooLong h = tt

pub sound_of : (text : List ℕ) (r : Request) → IsRequest text r → IsSound r
sound_of text r h = record { short = short_of h.framing h.behind r.body h.body; empty = ap (λ v. v.body_empty) h.head }

-- ---- refusals

head_tellable : (f : HeadFault) → IsTellable (head_row f)
head_tellable MissingTtl = record { row = refl; known = refl; bodied = λ e. omega arith }
head_tellable BadTtl = record { row = refl; known = refl; bodied = λ e. omega arith }
head_tellable BadTopic = record { row = refl; known = refl; bodied = λ e. omega arith }
head_tellable BadUrgency = record { row = refl; known = refl; bodied = λ e. omega arith }
head_tellable BadEncoding = record { row = refl; known = refl; bodied = λ e. omega arith }

pub fault_tellable : (f : Fault) → IsTellable (fault_row f)
fault_tellable UnknownPath = record { row = refl; known = refl; bodied = λ e. omega arith }
fault_tellable WrongMethod = record { row = refl; known = refl; bodied = λ e. omega arith }
fault_tellable LongBody = record { row = refl; known = refl; bodied = λ e. omega arith }
fault_tellable (Head f) = head_tellable f
fault_tellable BadToken = record { row = refl; known = refl; bodied = λ e. omega arith }

pub answer_tellable : (answer : Answer) → IfErr (answer_row answer) IsTellable
answer_tellable (Created i ttl) = tt
answer_tellable Gone = record { row = refl; known = refl; bodied = λ e. omega arith }
answer_tellable Full = record { row = refl; known = refl; bodied = λ e. omega arith }
answer_tellable IdsSpent = record { row = refl; known = refl; bodied = λ e. omega arith }
