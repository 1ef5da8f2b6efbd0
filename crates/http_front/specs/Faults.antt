-- What is wrong with a request, and what one without a fault asks for.
use Rattle.std.specs.Prelude.{◌≡◌, ℕ, ◌≤◌, Bool, List, length, Option, Some, None, Result, Ok, Err, codes, if◌then◌else◌}
use Rattle.std.specs.Str.{bytes_eq}
use Rattle.push_model.specs.declared.ask.Terms.{Terms}
use Rattle.push_model.specs.declared.ids.Token.{Token}
use Rattle.push_model.specs.AskValue.{AskValue}
use Rattle.http_wire.specs.declared.body.Body.{Body}
use Rattle.http_wire.specs.declared.body.Body.TheVariants.{Bytes, TooLong}
use Rattle.http_wire.specs.declared.request.Request.{Request}
use Rattle.http_wire.specs.HeadValue.{HeadValue}
use Rattle.http_wire.specs.Requests.{is_empty_body}
use Rattle.push_headers.specs.declared.check.HeadFault.{HeadFault}
use Rattle.push_headers.specs.Asks.{Asks}
use Rattle.push_headers.specs.Terms.{terms_of}
use Rattle.push_paths.specs.Paths.{token_of}
use Rattle.endpoint_token.specs.TokenTexts.{IsToken, is_token_text, spelled}
use Rattle.http_front.specs.declared.fault.Fault.{Fault}
use Rattle.http_front.specs.declared.fault.Fault.TheVariants.{UnknownPath, WrongMethod, LongBody, Head, BadToken}
use Rattle.http_front.specs.declared.judging.Judged.{Judged}
use Rattle.http_front.specs.declared.judging.Judged.TheVariants.{Asked, Faulty}

-- ---- the first fault, in the order path, method, size, head, token

abbrev pub token_fault : List ℕ → Option Fault
token_fault text = if is_token_text text then None else Some BadToken

abbrev pub head_fault : Result Terms HeadFault → List ℕ → Option Fault
head_fault (Err fault) text = Some (Head fault)
head_fault (Ok terms) text = token_fault text

abbrev pub body_fault : Body → Result Terms HeadFault → List ℕ → Option Fault
body_fault TooLong terms text = Some LongBody
body_fault (Bytes payload) terms text = head_fault terms text

abbrev pub is_post : List ℕ → Bool
is_post method = bytes_eq method (codes "POST")

abbrev pub path_fault : Option (List ℕ) → Request → Option Fault
path_fault None r = Some UnknownPath
path_fault (Some text) r = if is_post r.head.method then body_fault r.body (terms_of r.head) text else Some WrongMethod

abbrev pub first_fault : Request → Option Fault
first_fault r = path_fault (token_of r.head.target) r

-- ---- a request without a fault

-- it asks for this, for the channel of that token
pub record AsksFor (r : Request) (t : Token) (ask : AskValue) : Type 0 where
  pub text : List ℕ
  pub path : token_of r.head.target ≡ Some text
  pub token : IsToken t
  pub spells : text ≡ spelled t
  pub payload : List ℕ
  pub body : r.body ≡ Bytes payload
  pub asks : Asks r.head payload ask

abbrev pub IsJudged : Judged → Request → Type 0
IsJudged (Asked t ask) r = (first_fault r ≡ None) × AsksFor r t ask
IsJudged (Faulty fault) r = first_fault r ≡ Some fault

-- the same of a head and a payload, where the path names that text
abbrev pub IsJudgedHead : Judged → HeadValue → List ℕ → List ℕ → Type 0
IsJudgedHead (Asked t ask) h payload text =
    (head_fault (terms_of h) text ≡ None) × IsToken t × (text ≡ spelled t) × Asks h payload ask
IsJudgedHead (Faulty fault) h payload text = head_fault (terms_of h) text ≡ Some fault

-- ---- what every request that was read keeps

abbrev pub IsShort : Body → Type 0
IsShort (Bytes payload) = length payload ≤ 4096
IsShort TooLong = Unit {0}

-- its body has at most 4,096 bytes, or is known to be too long, and its head says whether it is empty
pub record IsSound (r : Request) : Type 0 where
  pub short : IsShort r.body
  pub empty : r.head.body_empty ≡ is_empty_body r.body
