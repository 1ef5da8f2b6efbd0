-- Reading a line from left to right. Each value is read and then compared with its spelling.
use Rattle.std.specs.Prelude.{◌≡◌, ℕ, ◌+◌, ◌-◌, ◌%◌, ◌^◌, ◌<◌, ◌≤◌, true, List, [], ◌∷◌, ◌++◌, length, drop, slice_index, replicate, codes, Bool, false, ◌&&◌, ◌||◌, Option, Some, None, Result, Ok, Err, nat_lt, nat_le, ◌==◌, if◌then◌else◌}
use Rattle.std.specs.Char.{is_ascii_digit}
use Rattle.std.specs.Fmt.{digits}
use Rattle.std.specs.List.{before_first, list_all, position_or_len}
use Rattle.std.specs.Result.{result_unwrap_or}
use Rattle.std.specs.Str.{bytes_eq}
use Rattle.std.specs.Str.Parse.{digits_value}
use Rattle.hex.specs.Hex.{encode_lower, decode_of, decode_sized}
use Rattle.hex.specs.declared.error.FromHexError.{FromHexError}
use Rattle.push_model.specs.declared.ask.Urgency.{Urgency}
use Rattle.push_model.specs.declared.ask.Urgency.TheVariants.{VeryLow, Low, Normal, High}
use Rattle.push_model.specs.declared.ids.ChannelId.{ChannelId}
use Rattle.push_model.specs.declared.ids.MsgId.{MsgId}
use Rattle.push_model.specs.declared.ids.Op.{Op}
use Rattle.push_model.specs.declared.ids.Token.{Token}
use Rattle.push_model.specs.declared.ids.Uaid.{Uaid}
use Rattle.push_model.specs.declared.step.Actor.{Actor}
use Rattle.push_model.specs.declared.step.Actor.TheVariants.{Flight, Saver}
use Rattle.push_model.specs.declared.step.Step.{Step}
use Rattle.push_model.specs.declared.step.Step.TheVariants.{Create, Attach, Register, Begin, Direct, Store, GiveUp, Reread, Nudge, Heard, Lost, TakeCheck, FetchTopic, FetchPlain, TakeDirect, Ack, Tick, Claim, Unregister, Renew, Close, Release, SaveOne, Clear, Notif, Kill, Up, Expire, DropUser, ListOrphans, ListIdle, Report}
use Rattle.push_model.specs.SessionKey.{SessionKey}
use Rattle.push_model.specs.Topics.{is_topic}
use Rattle.push_model.specs.AskValue.{AskValue}
use Rattle.schedule_text.specs.declared.fault.LineFault.{LineFault}
use Rattle.schedule_text.specs.declared.fault.LineFault.TheVariants.{Outside, NoMemory}
use Rattle.schedule_text.specs.Spelling.{coding_of}
use Rattle.schedule_text.specs.Words.{token_word}

infixl 10 ◌>>=◌
abbrev pub ◌>>=◌ : {A B : Type 0} → Option A → (A → Option B) → Option B
(Some x) >>= f = f x
None >>= f = None

-- what an error says of what reading gives: nothing, if memory ran out
abbrev pub Fails : {Y : Type 0} → LineFault → Option Y → Type 0
Fails Outside read = read ≡ None
Fails NoMemory read = Unit {0}

-- What a function returned, seen by view, is what reading gives, unless memory ran out.
abbrev pub Gives : {X Y : Type 0} → (X → Y) → Result X LineFault → Option Y → Type 0
Gives view (Ok x) read = read ≡ Some (view x)
Gives view (Err e) read = Fails e read

-- The same of a function that wants no memory.
abbrev pub Reads : {X Y : Type 0} → (X → Y) → Option X → Option Y → Type 0
Reads view (Some x) read = read ≡ Some (view x)
Reads view None read = read ≡ None

-- The same of one that takes its value from the front, and leaves the rest.
abbrev pub Takes : {X Y : Type 0} → (X → Y) → Option X → Option (Y × List ℕ) → List ℕ → Type 0
Takes view (Some x) read rest = read ≡ Some (view x, rest)
Takes view None read rest = read ≡ None

-- ---- words

abbrev pub is_space : ℕ → Bool
is_space b = b == 32

abbrev pub first_word : List ℕ → List ℕ
first_word bytes = before_first is_space bytes

abbrev pub after_word : List ℕ → List ℕ
after_word bytes = drop (position_or_len is_space bytes) bytes

-- the word behind a space, and what stands after it
unfoldable pub word_at : List ℕ → Option (List ℕ × List ℕ)
word_at [] = None
word_at (b ∷ bytes) = if b == 32 then Some (first_word bytes, after_word bytes) else None

-- ---- values of words

-- a lower-case hexadecimal digit
abbrev pub is_digit : ℕ → Bool
is_digit b = (nat_le 48 b && nat_le b 57) || (nat_le 97 b && nat_le b 102)

-- digits, with no zero in front but in `0`
pub record AreNumeral (w : List ℕ) : Type 0 where
  pub some : 0 < length w
  pub front : slice_index w 0 ≡ 48 → length w ≡ 1
  pub all : list_all is_digit w ≡ true

-- the same of decimal digits
pub record AreDecimal (w : List ℕ) : Type 0 where
  pub some : 0 < length w
  pub front : slice_index w 0 ≡ 48 → length w ≡ 1
  pub all : list_all is_ascii_digit w ≡ true

-- the digits of a payload, two a byte
pub record ArePayloadDigits (digits : List ℕ) : Type 0 where
  pub short : length digits ≤ 8192
  pub even : length digits % 2 ≡ 0
  pub all : list_all is_digit digits ≡ true

-- the bytes that they spell
abbrev pub decoded : List ℕ → List ℕ
decoded digits = result_unwrap_or (decode_of digits) []

-- the number below the limit that is written so in that base
unfoldable pub numeral_value : ℕ → ℕ → List ℕ → Option ℕ
numeral_value base limit w =
    if nat_lt (digits_value base w) limit && bytes_eq (digits base false (digits_value base w)) w then Some (digits_value base w) else None

unfoldable pub decimal_value : ℕ → ℕ → List ℕ → Option ℕ
decimal_value low high w = do
  n ← numeral_value 10 (high + 1) w
  if nat_le low n then Some n else None

-- the 48 digits of a token, with zeros in front
abbrev pub padded : List ℕ → List ℕ
padded w = replicate (48 - length w) 48 ++ w

abbrev pub checked_token : List ℕ → Result (List ℕ) FromHexError → Option Token
checked_token w (Ok bytes) = if bytes_eq (token_word (record { 0 = bytes })) w then Some (record { 0 = bytes }) else None
checked_token w (Err e) = None

unfoldable pub token_value : List ℕ → Option Token
token_value w = if nat_le (length w) 48 then checked_token w (decode_sized (padded w) 24) else None

unfoldable pub topic_value : List ℕ → Option (Option (List ℕ))
topic_value w =
    if bytes_eq w (codes ".") then Some None
    else if is_topic w then Some (Some w)
    else None

unfoldable pub urgency_value : List ℕ → Option Urgency
urgency_value w =
    if bytes_eq w (codes "very-low") then Some VeryLow
    else if bytes_eq w (codes "low") then Some Low
    else if bytes_eq w (codes "normal") then Some Normal
    else if bytes_eq w (codes "high") then Some High
    else None

abbrev pub checked_payload : List ℕ → Result (List ℕ) FromHexError → Option (List ℕ)
checked_payload w (Ok bytes) = if nat_lt 0 (length bytes) && bytes_eq (encode_lower bytes) w then Some bytes else None
checked_payload w (Err e) = None

unfoldable pub payload_value : List ℕ → Option (List ℕ)
payload_value w =
    if bytes_eq w (codes ".") then Some []
    else if nat_le (length w) 8192 then checked_payload w (decode_of w)
    else None

-- ---- fields: a value and what stands after it

-- the word behind a space, by its value
abbrev pub field_at : {A : Type 0} → (List ℕ → Option A) → List ℕ → Option (A × List ℕ)
field_at value bytes = do
  w ← word_at bytes
  v ← value w.0
  Some (v, w.1)

-- one after the other
abbrev pub both : {A B : Type 0} → (List ℕ → Option (A × List ℕ)) → (List ℕ → Option (B × List ℕ)) → List ℕ → Option ((A × B) × List ℕ)
both first second bytes = do
  a ← first bytes
  b ← second a.1
  Some ((a.0, b.0), b.1)

-- what is made of the fields
abbrev pub made_at : {A B : Type 0} → (A → B) → (List ℕ → Option (A × List ℕ)) → List ℕ → Option (B × List ℕ)
made_at make read bytes = do
  x ← read bytes
  Some (make x.0, x.1)

unfoldable pub hex_at : List ℕ → Option (ℕ × List ℕ)
hex_at bytes = field_at (numeral_value 16 (2 ^ 128)) bytes

unfoldable pub decimal_at : ℕ → ℕ → List ℕ → Option (ℕ × List ℕ)
decimal_at low high bytes = field_at (decimal_value low high) bytes

unfoldable pub token_at : List ℕ → Option (Token × List ℕ)
token_at bytes = field_at token_value bytes

unfoldable pub topic_at : List ℕ → Option (Option (List ℕ) × List ℕ)
topic_at bytes = field_at topic_value bytes

unfoldable pub urgency_at : List ℕ → Option (Urgency × List ℕ)
urgency_at bytes = field_at urgency_value bytes

unfoldable pub payload_at : List ℕ → Option (List ℕ × List ℕ)
payload_at bytes = field_at payload_value bytes

unfoldable pub moment_at : List ℕ → Option (ℕ × List ℕ)
moment_at bytes = decimal_at 0 (2 ^ 62 - 1) bytes

unfoldable pub node_at : List ℕ → Option (ℕ × List ℕ)
node_at bytes = decimal_at 1 8 bytes

abbrev pub user_of : ℕ → Uaid
user_of n = record { 0 = n }

unfoldable pub user_at : List ℕ → Option (Uaid × List ℕ)
user_at bytes = made_at user_of hex_at bytes

-- ---- fields of several words

abbrev pub session_of : Uaid × (ℕ × ℕ) → SessionKey
session_of x = record { uaid = x.0; node = x.1.0; at = x.1.1 }

unfoldable pub session_at : List ℕ → Option (SessionKey × List ℕ)
session_at bytes = made_at session_of (both user_at (both node_at (decimal_at 0 (2 ^ 63 - 1)))) bytes

abbrev pub op_of : ℕ × ℕ → Op
op_of x = record { pass = x.0; k = x.1 }

unfoldable pub op_at : List ℕ → Option (Op × List ℕ)
op_at bytes = made_at op_of (both (decimal_at 0 (2 ^ 64 - 1)) (decimal_at 0 (2 ^ 63 - 1))) bytes

abbrev pub channel_of : ℕ → ChannelId
channel_of n = record { 0 = n }

unfoldable pub channel_at : List ℕ → Option (ChannelId × List ℕ)
channel_at bytes = made_at channel_of hex_at bytes

abbrev pub id_of : ℕ → MsgId
id_of n = record { shard = 0; number = n }

unfoldable pub id_at : List ℕ → Option (MsgId × List ℕ)
id_at bytes = made_at id_of (decimal_at 1 (2 ^ 63 - 1)) bytes

-- the actor of that tag
abbrev pub tagged_at : List ℕ × List ℕ → Option (Actor × List ℕ)
tagged_at tag =
    if bytes_eq tag.0 (codes "f") then made_at Flight op_at tag.1
    else if bytes_eq tag.0 (codes "s") then made_at Saver session_at tag.1
    else None

unfoldable pub actor_at : List ℕ → Option (Actor × List ℕ)
actor_at bytes = word_at bytes >>= tagged_at

abbrev pub ask_of : ℕ × (Option (List ℕ) × (Urgency × List ℕ)) → AskValue
ask_of x =
    record {
      terms = record { ttl = x.0; topic = x.1.0; urgency = x.1.1.0; coding = coding_of x.1.1.1 };
      encryption = [];
      crypto_key = [];
      payload = x.1.1.1;
    }

unfoldable pub ask_at : List ℕ → Option (AskValue × List ℕ)
ask_at bytes = made_at ask_of (both (decimal_at 0 2592000) (both topic_at (both urgency_at payload_at))) bytes

-- ---- lines

-- the step, where nothing stands after it
abbrev pub at_end : List ℕ → Step → Option Step
at_end [] step = Some step
at_end (b ∷ bytes) step = None

-- the step of these fields, where nothing stands after them
abbrev pub line_of : {A : Type 0} → (A → Step) → (List ℕ → Option (A × List ℕ)) → List ℕ → Option Step
line_of step read bytes = read bytes >>= λ x. at_end x.1 (step x.0)

-- lines of sessions

unfoldable pub create_at : List ℕ → Option Step
create_at bytes = line_of Create session_at bytes

unfoldable pub claim_at : List ℕ → Option Step
claim_at bytes = line_of Claim session_at bytes

unfoldable pub attach_at : List ℕ → Option Step
attach_at bytes = line_of Attach session_at bytes

unfoldable pub check_at : List ℕ → Option Step
check_at bytes = line_of TakeCheck session_at bytes

unfoldable pub topics_at : List ℕ → Option Step
topics_at bytes = line_of FetchTopic session_at bytes

unfoldable pub plains_at : List ℕ → Option Step
plains_at bytes = line_of FetchPlain session_at bytes

unfoldable pub take_at : List ℕ → Option Step
take_at bytes = line_of TakeDirect session_at bytes

unfoldable pub renew_at : List ℕ → Option Step
renew_at bytes = line_of Renew session_at bytes

unfoldable pub close_at : List ℕ → Option Step
close_at bytes = line_of Close session_at bytes

unfoldable pub release_at : List ℕ → Option Step
release_at bytes = line_of Release session_at bytes

unfoldable pub save_at : List ℕ → Option Step
save_at bytes = line_of SaveOne session_at bytes

unfoldable pub register_at : List ℕ → Option Step
register_at bytes = line_of (λ x. Register x.0 x.1.0 x.1.1) (both session_at (both channel_at token_at)) bytes

unfoldable pub unregister_at : List ℕ → Option Step
unregister_at bytes = line_of (λ x. Unregister x.0 x.1) (both session_at channel_at) bytes

unfoldable pub ack_at : List ℕ → Option Step
ack_at bytes = line_of (λ x. Ack x.0 x.1.0 x.1.1) (both session_at (both channel_at id_at)) bytes

-- lines of flights and of other actors

unfoldable pub begin_at : List ℕ → Option Step
begin_at bytes = line_of (λ x. Begin x.0 x.1.0 x.1.1) (both op_at (both token_at ask_at)) bytes

unfoldable pub direct_at : List ℕ → Option Step
direct_at bytes = line_of Direct op_at bytes

unfoldable pub store_at : List ℕ → Option Step
store_at bytes = line_of Store op_at bytes

unfoldable pub give_up_at : List ℕ → Option Step
give_up_at bytes = line_of GiveUp op_at bytes

unfoldable pub reread_at : List ℕ → Option Step
reread_at bytes = line_of Reread actor_at bytes

unfoldable pub nudge_at : List ℕ → Option Step
nudge_at bytes = line_of Nudge actor_at bytes

unfoldable pub heard_at : List ℕ → Option Step
heard_at bytes = line_of Heard actor_at bytes

unfoldable pub lost_at : List ℕ → Option Step
lost_at bytes = line_of Lost actor_at bytes

unfoldable pub clear_at : List ℕ → Option Step
clear_at bytes = line_of Clear actor_at bytes

-- lines of the shard

unfoldable pub tick_at : List ℕ → Option Step
tick_at bytes = line_of Tick moment_at bytes

unfoldable pub notif_at : List ℕ → Option Step
notif_at bytes = line_of (λ x. Notif x.0 x.1) (both node_at user_at) bytes

unfoldable pub kill_at : List ℕ → Option Step
kill_at bytes = line_of Kill node_at bytes

unfoldable pub up_at : List ℕ → Option Step
up_at bytes = line_of Up node_at bytes

unfoldable pub expire_at : List ℕ → Option Step
expire_at bytes = line_of Expire user_at bytes

unfoldable pub drop_user_at : List ℕ → Option Step
drop_user_at bytes = line_of DropUser user_at bytes

-- no word
abbrev pub nothing_at : List ℕ → Option (Unit {0} × List ℕ)
nothing_at bytes = Some (tt, bytes)

unfoldable pub orphans_at : List ℕ → Option Step
orphans_at bytes = line_of (λ x. ListOrphans) nothing_at bytes

unfoldable pub idle_at : List ℕ → Option Step
idle_at bytes = line_of (λ x. ListIdle) nothing_at bytes

unfoldable pub report_at : List ℕ → Option Step
report_at bytes = line_of (λ x. Report) nothing_at bytes

-- the first of the verbs that is this word reads what stands behind it
abbrev pub by_verb : List (List ℕ × (List ℕ → Option Step)) → List ℕ → List ℕ → Option Step
by_verb [] w bytes = None
by_verb (line ∷ lines) w bytes = if bytes_eq w line.0 then line.1 bytes else by_verb lines w bytes

-- each verb, and how what stands behind it is read
abbrev pub shard_verbs : List (List ℕ × (List ℕ → Option Step))
shard_verbs =
    (codes "tick", tick_at) ∷ (codes "notif", notif_at) ∷ (codes "kill", kill_at) ∷ (codes "up", up_at) ∷ (codes "expire", expire_at) ∷ (codes "drop", drop_user_at) ∷ (codes "orphans", orphans_at) ∷ (codes "idle", idle_at) ∷ (codes "report", report_at) ∷ []

abbrev pub flight_verbs : List (List ℕ × (List ℕ → Option Step))
flight_verbs =
    (codes "direct", direct_at) ∷ (codes "store", store_at) ∷ (codes "giveup", give_up_at) ∷ (codes "reread", reread_at) ∷ (codes "nudge", nudge_at) ∷ (codes "heard", heard_at) ∷ (codes "lost", lost_at) ∷ (codes "clear", clear_at) ∷ shard_verbs

abbrev pub session_verbs : List (List ℕ × (List ℕ → Option Step))
session_verbs =
    (codes "create", create_at) ∷ (codes "claim", claim_at) ∷ (codes "attach", attach_at) ∷ (codes "check", check_at) ∷ (codes "topics", topics_at) ∷ (codes "plains", plains_at) ∷ (codes "take", take_at) ∷ (codes "renew", renew_at) ∷ (codes "close", close_at) ∷ (codes "release", release_at) ∷ (codes "save", save_at) ∷ (codes "register", register_at) ∷ (codes "unregister", unregister_at) ∷ (codes "ack", ack_at) ∷ flight_verbs

-- the first alone has a payload
abbrev pub verbs : List (List ℕ × (List ℕ → Option Step))
verbs = (codes "begin", begin_at) ∷ session_verbs

unfoldable pub line_at : List ℕ → Option Step
line_at line = by_verb verbs (first_word line) (after_word line)

-- ---- memory

-- the begin of a message with a payload
abbrev pub HasPayload : Step → Type 0
HasPayload (Begin o t a) = 0 < length a.payload
HasPayload _ = ⊥

-- Memory is wanted only for the payload of such a step.
abbrev pub WantsFor : (Step → Type 0) → Result Step LineFault → Type 0
WantsFor Such (Ok s) = Unit {0}
WantsFor Such (Err Outside) = Unit {0}
WantsFor Such (Err NoMemory) = (s : Step) × (Such s × HasPayload s)
