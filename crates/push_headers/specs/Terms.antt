-- What a head asks for, or its first fault.
use Rattle.std.specs.Prelude.{ℕ, Bool, ◌&&◌, true, false, nat_le, List, [], ◌∷◌, length, Option, Some, None, Result, Ok, Err, ok_or, if◌then◌else◌, codes}
use Rattle.std.specs.List.{list_all}
use Rattle.std.specs.Str.{str_to_ascii_lowercase, bytes_eq}
use Rattle.push_model.specs.AskValue.{is_printable}
use Rattle.push_model.specs.Topics.{is_topic}
use Rattle.push_model.specs.declared.ask.Terms.{Terms}
use Rattle.push_model.specs.declared.ask.Urgency.{Urgency}
use Rattle.push_model.specs.declared.ask.Urgency.TheVariants.{VeryLow, Low, Normal, High}
use Rattle.push_model.specs.declared.ask.Coding.{Coding}
use Rattle.push_model.specs.declared.ask.Coding.TheVariants.{Bare, Aes128gcm, Aesgcm}
use Rattle.http_bytes.specs.Numbers.{number_of}
use Rattle.http_wire.specs.HeadValue.{HeadValue}
use Rattle.http_wire.specs.Heads.{values_of}
use Rattle.push_headers.specs.declared.check.HeadFault.{HeadFault}
use Rattle.push_headers.specs.declared.check.HeadFault.TheVariants.{MissingTtl, BadTtl, BadTopic, BadUrgency, BadEncoding}

-- ---- by the values of the lines of one name

-- 1*DIGIT (RFC 8030, section 5.2), at most 30 days
abbrev pub ttl_by : List (List ℕ) → Result ℕ HeadFault
ttl_by [] = Err MissingTtl
ttl_by (v ∷ []) = ok_or (number_of 2592000 v) BadTtl
ttl_by (a ∷ b ∷ more) = Err BadTtl

-- RFC 8030, section 5.4
abbrev pub topic_by : List (List ℕ) → Result (Option (List ℕ)) HeadFault
topic_by [] = Ok None
topic_by (v ∷ []) = if is_topic v then Ok (Some v) else Err BadTopic
topic_by (a ∷ b ∷ more) = Err BadTopic

-- without regard to case
abbrev pub is_word : List ℕ → List ℕ → Bool
is_word word v = bytes_eq (str_to_ascii_lowercase v) word

-- one of the four words (RFC 8030, section 5.3)
abbrev pub urgency_of : List ℕ → Option Urgency
urgency_of v =
    if is_word (codes "very-low") v then Some VeryLow else
    (if is_word (codes "low") v then Some Low else
    (if is_word (codes "normal") v then Some Normal else
    (if is_word (codes "high") v then Some High else None)))

abbrev pub urgency_by : List (List ℕ) → Result Urgency HeadFault
urgency_by [] = Ok Normal
urgency_by (v ∷ []) = ok_or (urgency_of v) BadUrgency
urgency_by (a ∷ b ∷ more) = Err BadUrgency

-- one of the two codings
abbrev pub coding_of : List ℕ → Option Coding
coding_of v =
    if is_word (codes "aes128gcm") v then Some Aes128gcm else
    (if is_word (codes "aesgcm") v then Some Aesgcm else None)

-- with an empty body the line is passed over
abbrev pub coding_by : Bool → List (List ℕ) → Result Coding HeadFault
coding_by true values = Ok Bare
coding_by false [] = Err BadEncoding
coding_by false (v ∷ []) = ok_or (coding_of v) BadEncoding
coding_by false (a ∷ b ∷ more) = Err BadEncoding

-- no Encryption or Crypto-Key, or one of at most 1,024 printable bytes
abbrev pub is_parameter : List (List ℕ) → Bool
is_parameter [] = true
is_parameter (v ∷ []) = nat_le (length v) 1024 && list_all is_printable v
is_parameter (a ∷ b ∷ more) = false

-- ---- the whole head

infixl 10 ◌>>=◌
abbrev pub ◌>>=◌ : {A B : Type 0} → Result A HeadFault → (A → Result B HeadFault) → Result B HeadFault
(Ok x) >>= f = f x
(Err e) >>= f = Err e

-- the terms, or the first fault in this order
abbrev pub terms_of : HeadValue → Result Terms HeadFault
terms_of h = do
  ttl ← ttl_by (values_of (codes "ttl") h.lines)
  topic ← topic_by (values_of (codes "topic") h.lines)
  urgency ← urgency_by (values_of (codes "urgency") h.lines)
  coding ← coding_by h.body_empty (values_of (codes "content-encoding") h.lines)
  if is_parameter (values_of (codes "encryption") h.lines) && is_parameter (values_of (codes "crypto-key") h.lines) then Ok (record { ttl = ttl; topic = topic; urgency = urgency; coding = coding }) else Err BadEncoding
