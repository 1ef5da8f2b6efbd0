-- One pump of a session: what the chat gave, what is answered, a turn, and the end.
use Rattle.std.specs.Prelude.{◌≡◌, ◌||◌, ◌&&◌, ◌⊎◌, if◌then◌else◌, ℕ, Bool, true, false, List, [], ◌∷◌, Result, Ok, Err, Option, Some, None, not}
use Rattle.push_model.specs.SessionKey.{SessionKey}
use Rattle.push_model.specs.DeskViews.{DeskView}
use Rattle.push_model.specs.declared.ids.Uaid.{Uaid}
use Rattle.push_outside.specs.Chats.{Takes, TakeFails, heard_texts, told_more}
use Rattle.push_outside.specs.Moments.{IsMomentOf}
use Rattle.push_outside.specs.declared.chat.Heard.{Heard}
use Rattle.push_outside.specs.declared.chat.Heard.TheVariants.{Text, Binary, TooLong, NotYet, End, Failed, NoMemory as HeardNoMemory}
use Rattle.client_messages.specs.ClientTexts.{client_message}
use Rattle.client_messages.specs.ServerTexts.{hello_text}
use Rattle.client_messages.specs.declared.client.ClientMsg.{ClientMsg}
use Rattle.client_messages.specs.declared.client.ClientMsg.TheVariants.{Hello}
use Rattle.client_messages.specs.declared.client.ClientFault.{ClientFault}
use Rattle.session_drive.specs.Ends.{close_code}
use Rattle.session_drive.specs.Shards.{shard_of}
use Rattle.session_drive.specs.Chats.{ChatView, Sends}
use Rattle.session_drive.specs.Runs.{Sides}
use Rattle.session_drive.specs.Hellos.{HelloMade}
use Rattle.session_drive.specs.Answers.{TextAnswered}
use Rattle.session_drive.specs.Turns.{TurnMade}
use Rattle.session_drive.specs.Shuts.{ShutMade}
use Rattle.session_drive.specs.declared.ends.SessionEnd.{SessionEnd}
use Rattle.session_drive.specs.declared.ends.SessionEnd.TheVariants.{Refused, Left, ChatFault, NoMemory}
use Rattle.session_drive.specs.declared.turns.Turned.{Turned}
use Rattle.session_drive.specs.declared.turns.Turned.TheVariants.{Idle}
use Rattle.session_front.specs.declared.greets.First.{First}
use Rattle.session_front.specs.declared.greets.First.TheVariants.{Hello as FirstHello, Other as FirstOther, NoMemory as FirstNoMemory}
use Rattle.session_front.specs.declared.live.Live.{Live}
use Rattle.session_front.specs.declared.live.Place.{Place}
use Rattle.session_front.specs.declared.live.Pumped.{Pumped}
use Rattle.session_front.specs.declared.live.Pumped.TheVariants.{Moved, Idle as IsIdle, Done}

-- ---- what the chat gave

-- the chat gave this; what was sent and the code stay
pub record Hears (heard : Heard) (c d : ChatView) : Type 0 where
  pub item : Takes heard c.left d.left
  pub taken : d.taken ≡ told_more c.taken (heard_texts heard)
  pub faults : TakeFails heard c.faults d.faults
  pub sent : d.sent ≡ c.sent
  pub code : d.code ≡ c.code

abbrev pub is_text : Heard → Bool
is_text (Text t) = true
is_text heard = false

abbrev pub is_not_yet : Heard → Bool
is_not_yet NotYet = true
is_not_yet heard = false

-- ---- what is answered; t is the session that is attached after it

-- nothing is made, sent or drawn
abbrev pub OnlySays : Result (Unit {0}) SessionEnd → Option SessionKey → Result (Unit {0}) SessionEnd → Option SessionKey → Sides → Sides → Option (List ℕ) → Option (List ℕ) → Type 0
OnlySays meant s answer t a b before after = (answer ≡ meant) × (t ≡ s) × (b ≡ a) × (after ≡ before)

-- the client is told that its session has begun
abbrev pub ThenGreets : Result SessionKey SessionEnd → Result (Unit {0}) SessionEnd → Option SessionKey → ChatView → ChatView → Type 0
ThenGreets (Ok s) answer t c d = (t ≡ Some s) × Sends answer (hello_text s.uaid ∷ []) c d
ThenGreets (Err e) answer t c d = (answer ≡ Err e) × (t ≡ None) × (d ≡ c)

pub record Greets (node : ℕ) (u : Option Uaid) (moment : Option ℕ) (answer : Result (Unit {0}) SessionEnd) (t : Option SessionKey) (a b : Sides) (before after : Option (List ℕ)) : Type 0 where
  pub at : ℕ
  pub told : IsMomentOf moment at
  pub begun : Result SessionKey SessionEnd
  pub hello : HelloMade begun node at u a.desks b.desks before after
  pub greets : ThenGreets begun answer t a.chat b.chat

abbrev pub IsNoHello : Result ClientMsg ClientFault → Type 0
IsNoHello (Ok (Hello u)) = ⊥
IsNoHello meaning = Unit {0}

-- what is read of the first text of a client
abbrev pub SaysFirst : Result ClientMsg ClientFault → First → Type 0
SaysFirst meaning (FirstHello u) = meaning ≡ Ok (Hello u)
SaysFirst meaning FirstOther = IsNoHello meaning
SaysFirst meaning FirstNoMemory = Unit {0}

-- the first text of a client: a hello, or it is refused
abbrev pub FirstAnswered : ℕ → Result ClientMsg ClientFault → Option ℕ → Result (Unit {0}) SessionEnd → Option SessionKey → Sides → Sides → Option (List ℕ) → Option (List ℕ) → Type 0
FirstAnswered node (Ok (Hello u)) moment answer t a b before after = Greets node u moment answer t a b before after
FirstAnswered node meaning moment answer t a b before after = OnlySays (Err Refused) None answer t a b before after

-- a text, for the session s, if there is one
abbrev pub TextOf : ℕ → ℕ → Option SessionKey → List ℕ → Option ℕ → Result (Unit {0}) SessionEnd → Option SessionKey → Sides → Sides → Option (List ℕ) → Option (List ℕ) → Type 0
TextOf node port None text moment answer t a b before after =
    FirstAnswered node (client_message text) moment answer t a b before after ⊎ OnlySays (Err NoMemory) None answer t a b before after
TextOf node port (Some s) text moment answer t a b before after =
    TextAnswered (shard_of s.uaid a.desks.size) s port (client_message text) answer a b before after × (t ≡ Some s)

-- by what was heard
abbrev pub ItemAnswered : ℕ → ℕ → Option SessionKey → Heard → Option ℕ → Result (Unit {0}) SessionEnd → Option SessionKey → Sides → Sides → Option (List ℕ) → Option (List ℕ) → Type 0
ItemAnswered node port s (Text text) moment answer t a b before after = TextOf node port s text moment answer t a b before after
ItemAnswered node port s Binary moment answer t a b before after = OnlySays (Err Refused) s answer t a b before after
ItemAnswered node port s TooLong moment answer t a b before after = OnlySays (Err Refused) s answer t a b before after
ItemAnswered node port s NotYet moment answer t a b before after = OnlySays (Ok tt) s answer t a b before after
ItemAnswered node port s End moment answer t a b before after = OnlySays (Err Left) s answer t a b before after
ItemAnswered node port s Failed moment answer t a b before after = OnlySays (Err ChatFault) s answer t a b before after
ItemAnswered node port s HeardNoMemory moment answer t a b before after = OnlySays (Err NoMemory) s answer t a b before after

-- ---- a turn, where a session is there and it is time for one

abbrev pub TurnsWhere : Option SessionKey → Bool → Option (Result Turned SessionEnd) → Sides → Sides → Type 0
TurnsWhere None time turned a b = (turned ≡ None) × (b ≡ a)
TurnsWhere (Some s) false turned a b = (turned ≡ None) × (b ≡ a)
TurnsWhere (Some s) true None a b = ⊥
TurnsWhere (Some s) true (Some turned) a b = TurnMade (shard_of s.uaid a.desks.size) s turned a b

-- where the answer was an end there is no turn
abbrev pub ThenTurns : Result (Unit {0}) SessionEnd → Bool → Option SessionKey → Option (Result Turned SessionEnd) → Sides → Sides → Type 0
ThenTurns (Ok u) time s turned a b = TurnsWhere s time turned a b
ThenTurns (Err e) time s turned a b = (turned ≡ None) × (b ≡ a)

-- what they came to: an end, or what the turn did
abbrev pub served : Result (Unit {0}) SessionEnd → Option (Result Turned SessionEnd) → Result (Option Turned) SessionEnd
served (Err e) turned = Err e
served (Ok u) None = Ok None
served (Ok u) (Some (Ok turned)) = Ok (Some turned)
served (Ok u) (Some (Err e)) = Err e

-- ---- the end

-- the chat is finished with the code, if there is one
abbrev pub Finishes : Option ℕ → ChatView → ChatView → Type 0
Finishes None c d = d ≡ c
Finishes (Some code) c d = (d.code ≡ Some code) × (d.left ≡ c.left) × (d.taken ≡ c.taken) × (d.sent ≡ c.sent)

-- a session that is attached is shut
abbrev pub Shuts : Option SessionKey → DeskView → DeskView → ℕ → ℕ → Type 0
Shuts None a b before after = (b ≡ a) × (after ≡ before)
Shuts (Some s) a b before after = (saved : ℕ) × ShutMade (shard_of s.uaid a.size) s saved a b before after

pub record Leaves (e : SessionEnd) (s : Option SessionKey) (a b : Sides) (before after : ℕ) : Type 0 where
  pub shuts : Shuts s a.desks b.desks before after
  pub finishes : Finishes (close_code e) a.chat b.chat

-- ---- the whole of it

-- there was no turn, or it did nothing
abbrev pub is_idle : Option Turned → Bool
is_idle None = true
is_idle (Some Idle) = true
is_idle (Some turned) = false

-- a turn that does nothing is the last, until there is news
abbrev pub due_after : Option Turned → Bool → Bool
due_after None due = due
due_after (Some turned) due = not (is_idle (Some turned))

abbrev pub pumped : Heard → Option Turned → Pumped
pumped heard turned = if is_not_yet heard && is_idle turned then IsIdle else Moved

-- an end is told the client, and the session t that was attached is shut; else nothing is done any more
abbrev pub PumpEnds : Result (Option Turned) SessionEnd → Heard → Option SessionKey → Bool → Pumped → Live → Sides → Sides → ℕ → ℕ → Type 0
PumpEnds (Ok turned) heard t due result live a b before after =
    (result ≡ pumped heard turned) × (live.s ≡ t) × (live.due ≡ due_after turned due) × (b ≡ a) × (after ≡ before)
PumpEnds (Err e) heard t due result live a b before after = (result ≡ Done e) × (live.s ≡ None) × Leaves e t a b before after

-- an item is taken and answered, and then a turn made
pub record Serves (place : Place) (live : Live) (moment : Option ℕ) (heard : Heard) (t : Option SessionKey) (outcome : Result (Option Turned) SessionEnd) (a d : Sides) (given after : Option (List ℕ)) : Type 0 where
  pub b : ChatView
  pub hears : Hears heard a.chat b
  pub answer : Result (Unit {0}) SessionEnd
  pub c : Sides
  pub answers : ItemAnswered place.node place.port live.s heard moment answer t (record { desks = a.desks; chat = b }) c given after
  pub turned : Option (Result Turned SessionEnd)
  pub turns : ThenTurns answer (live.due || is_text heard) t turned c d
  pub is : outcome ≡ served answer turned

-- the pump of a session at that place; the draw gave these bytes, and the link has these counts of faults
pub record PumpMade (place : Place) (live next : Live) (moment : Option ℕ) (result : Pumped) (a e : Sides) (given after : Option (List ℕ)) (before faults : ℕ) : Type 0 where
  pub heard : Heard
  pub attached : Option SessionKey
  pub outcome : Result (Option Turned) SessionEnd
  pub d : Sides
  pub serves : Serves place live moment heard attached outcome a d given after
  pub ends : PumpEnds outcome heard attached live.due result next d e before faults
