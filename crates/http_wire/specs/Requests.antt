-- The next request of some bytes, and how reading it may break off.
use Rattle.std.specs.Prelude.{◌≡◌, ℕ, ◌≤◌, ◌<◌, ◌⊎◌, ⊤, ◌==◌, Bool, true, false, List, [], ◌∷◌, ◌++◌, length, Option, Some, None, if◌then◌else◌}
use Rattle.httparse.specs.Grammar.{RequestHead, print_request}
use Rattle.http_bytes.specs.Moves.{Takes}
use Rattle.http_bytes.specs.Breaks.{Stops, StopsAtEnd, Behind, OpenWithin}
use Rattle.http_bytes.specs.Waits.{most_kept}
use Rattle.http_wire.specs.HeadValue.{HeadValue}
use Rattle.http_wire.specs.Heads.{value_of, lines_of, IsHead}
use Rattle.http_wire.specs.Framings.{framing_of}
use Rattle.http_bytes.specs.Forms.{IsHeadOpen, IsHeadBad, AreTrailersOpen, AreTrailersBad}
use Rattle.http_wire.specs.Chunks.{BehindLast, IsChunkedBody, IsChunkedOpen, IsChunkedBad, most_body}
use Rattle.http_bytes.specs.declared.fault.WireFault.{WireFault}
use Rattle.http_bytes.specs.declared.fault.WireFault.TheVariants.{Ended, BadHead, HeadTooLong, Truncated, Idle, ReadFault, WriteFault, NoMemory}
use Rattle.http_wire.specs.declared.framing.Framing.{Framing}
use Rattle.http_wire.specs.declared.framing.Framing.TheVariants.{Length, Chunked}
use Rattle.http_wire.specs.declared.body.Body.{Body}
use Rattle.http_wire.specs.declared.body.Body.TheVariants.{Bytes, TooLong}
use Rattle.http_wire.specs.declared.request.Request.{Request}
use Rattle.http_bytes.specs.declared.wait.Stop.{Stop}
use Rattle.http_bytes.specs.declared.wait.Stop.TheVariants as stop

-- ---- what a request is

-- a body of that framing, as text; one that is too long ends where this is known
abbrev pub IsBody : Framing → List ℕ → Body → Type 0
IsBody (Length n) text (Bytes body) = (length body ≡ n) × (n ≤ most_body) × (text ≡ body)
IsBody (Length n) text TooLong = (most_body < n) × (text ≡ [])
IsBody Chunked text body = IsChunkedBody text body

abbrev pub is_empty_body : Body → Bool
is_empty_body (Bytes body) = length body == 0
is_empty_body TooLong = false

-- the text of a request: its head, and its body as the head frames it
pub record IsRequest (text : List ℕ) (r : Request) : Type 0 where
  pub tree : RequestHead
  pub is : IsHead tree
  pub framing : Framing
  pub framed : framing_of (lines_of tree.fields) ≡ Some framing
  pub behind : List ℕ
  pub body : IsBody framing behind r.body
  pub text_is : text ≡ print_request tree ++ behind
  pub head : r.head ≡ value_of tree (is_empty_body r.body)

-- ---- what is not yet a request, or never

-- empty lines alone
abbrev pub is_blank : List ℕ → Bool
is_blank [] = true
is_blank (a ∷ []) = a == 10
is_blank (a ∷ b ∷ bytes) = if a == 10 then is_blank (b ∷ bytes) else (if a == 13 then (if b == 10 then is_blank bytes else false) else false)

-- a head that doesn't say in one way how long its body is
pub record IsUnframed (seen : List ℕ) : Type 0 where
  pub tree : RequestHead
  pub is : IsHead tree
  pub unframed : framing_of (lines_of tree.fields) ≡ None
  pub behind : List ℕ
  pub seen_is : seen ≡ print_request tree ++ behind

abbrev pub IsBodyOpen : Framing → List ℕ → Type 0
IsBodyOpen (Length n) seen = (n ≤ most_body) × (length seen < n)
IsBodyOpen Chunked seen = IsChunkedOpen seen

abbrev pub IsBodyBad : Framing → List ℕ → Type 0
IsBodyBad (Length n) seen = ⊥
IsBodyBad Chunked seen = IsChunkedBad seen

-- behind a head P holds
pub record BehindHead (P : Framing → List ℕ → Type 0) (seen : List ℕ) : Type 0 where
  pub tree : RequestHead
  pub is : IsHead tree
  pub framing : Framing
  pub framed : framing_of (lines_of tree.fields) ≡ Some framing
  pub behind : Behind (print_request tree) (P framing) seen

-- part of a request: of its head, or of its body
abbrev pub IsOpen : List ℕ → Type 0
IsOpen seen = OpenWithin IsHeadOpen seen ⊎ BehindHead IsBodyOpen seen

-- 65,536 bytes, and no end of the head among them
abbrev pub IsHeadFull : List ℕ → Type 0
IsHeadFull seen = IsHeadOpen seen × (length seen ≡ most_kept)

-- empty lines alone, and fewer than 65,536 bytes of them
abbrev pub IsBlank : List ℕ → Type 0
IsBlank seen = (is_blank seen ≡ true) × (length seen < most_kept)

-- part of a request, which has begun
abbrev pub IsBegun : List ℕ → Type 0
IsBegun seen = (OpenWithin IsHeadOpen seen × (is_blank seen ≡ false)) ⊎ BehindHead IsBodyOpen seen

-- no request, whatever follows
abbrev pub IsBad : List ℕ → Type 0
IsBad seen = (IsHeadBad seen ⊎ IsUnframed seen) ⊎ BehindHead IsBodyBad seen

-- ---- what httparse leaves undecided

-- open trailers of which each whole section has over 100 lines
abbrev pub AreTrailersUndecided : List ℕ → Type 0
AreTrailersUndecided seen = AreTrailersOpen seen × AreTrailersBad seen

abbrev pub IsBodyUndecided : Framing → List ℕ → Type 0
IsBodyUndecided (Length n) seen = ⊥
IsBodyUndecided Chunked seen = BehindLast AreTrailersUndecided seen

-- an open head of which each whole one has over 100 lines, as also where the bytes end inside a target that nothing completes,
-- or such trailers
abbrev pub IsUndecided : List ℕ → Type 0
IsUndecided seen = (IsHeadOpen seen × IsHeadBad seen) ⊎ BehindHead IsBodyUndecided seen

-- ---- what reading takes, and how it breaks off

-- a head stands in front, with its framing
pub record IsStart (head : HeadValue) (framing : Framing) (old new : List ℕ) : Type 0 where
  pub tree : RequestHead
  pub is : IsHead tree
  pub framed : framing_of (lines_of tree.fields) ≡ Some framing
  pub old_is : old ≡ print_request tree ++ new
  pub head_is : head ≡ value_of tree true

abbrev pub BeginsBad : WireFault → List ℕ → Type 0
BeginsBad BadHead old = IsUnframed old
BeginsBad NoMemory old = ⊤
BeginsBad Ended old = ⊥
BeginsBad HeadTooLong old = ⊥
BeginsBad Truncated old = ⊥
BeginsBad Idle old = ⊥
BeginsBad ReadFault old = ⊥
BeginsBad WriteFault old = ⊥

pub record TakesHead (before after : Option (List ℕ)) (old new : List ℕ) (head : HeadValue) (framing : Framing) : Type 0 where
  pub tree : RequestHead
  pub is : IsHead tree
  pub framed : framing_of (lines_of tree.fields) ≡ Some framing
  pub takes : Takes before after old new (print_request tree)
  pub head_is : head ≡ value_of tree true

abbrev pub head_fault : Stop → List ℕ → WireFault
head_fault stop.End seen = if is_blank seen then Ended else Truncated
head_fault stop.Full seen = HeadTooLong
head_fault stop.Bad seen = BadHead
head_fault stop.Idle seen = Idle
head_fault stop.Failed seen = ReadFault
head_fault stop.NoMemory seen = NoMemory

abbrev pub BreaksHead : WireFault → Option (List ℕ) → Option (List ℕ) → List ℕ → Type 0
BreaksHead Ended before after old = StopsAtEnd before after old IsBlank
BreaksHead Truncated before after old = StopsAtEnd before after old (λ seen. OpenWithin IsHeadOpen seen × (is_blank seen ≡ false))
BreaksHead HeadTooLong before after old = Stops before after old IsHeadFull
BreaksHead BadHead before after old = Stops before after old (λ seen. IsHeadBad seen ⊎ IsUnframed seen)
BreaksHead Idle before after old = Stops before after old (OpenWithin IsHeadOpen)
BreaksHead ReadFault before after old = Stops before after old (OpenWithin IsHeadOpen)
BreaksHead NoMemory before after old = ⊤
BreaksHead WriteFault before after old = ⊥

pub record TakesBytes (before after : Option (List ℕ)) (old new bytes : List ℕ) (size : ℕ) : Type 0 where
  pub size_is : length bytes ≡ size
  pub takes : Takes before after old new bytes

pub record TakesBody (before after : Option (List ℕ)) (old new : List ℕ) (framing : Framing) (body : Body) : Type 0 where
  pub text : List ℕ
  pub is : IsBody framing text body
  pub takes : Takes before after old new text

-- what was kept and what was read begins with the request, and what is behind it is kept
pub record TakesRequest (before after : Option (List ℕ)) (old new : List ℕ) (r : Request) : Type 0 where
  pub text : List ℕ
  pub is : IsRequest text r
  pub takes : Takes before after old new text

-- by the fault: what was kept and what was read, and whether it was all that came
abbrev pub BreaksRequest : WireFault → Option (List ℕ) → Option (List ℕ) → List ℕ → Type 0
BreaksRequest Ended before after old = StopsAtEnd before after old IsBlank
BreaksRequest Truncated before after old = StopsAtEnd before after old IsBegun
BreaksRequest HeadTooLong before after old = Stops before after old IsHeadFull
BreaksRequest BadHead before after old = Stops before after old IsBad
BreaksRequest Idle before after old = Stops before after old IsOpen
BreaksRequest ReadFault before after old = Stops before after old IsOpen
BreaksRequest NoMemory before after old = ⊤
BreaksRequest WriteFault before after old = ⊥
