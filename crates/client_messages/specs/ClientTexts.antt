-- What a client's text says.
use Rattle.std.specs.Prelude.{◌≡◌, ℕ, List, [], ◌∷◌, ◌++◌, codes, Option, Some, None, Result, Ok, Err, option_and_then, is_some, Bool, true, false, if◌then◌else◌}
use Rattle.std.specs.Str.{bytes_eq}
use Rattle.serde_json.specs.Data.{Data, Items, no_items, item, Members, no_members, member}
use Rattle.serde_json.specs.Find.{get, as_str, as_array, as_object}
use Rattle.serde_json.specs.Read.{read}
use Rattle.push_model.specs.declared.ids.Uaid.{Uaid}
use Rattle.push_model.specs.declared.ids.ChannelId.{ChannelId}
use Rattle.push_model.specs.declared.ids.MsgId.{MsgId}
use Rattle.client_messages.specs.declared.client.ClientMsg.{ClientMsg}
use Rattle.client_messages.specs.declared.client.ClientMsg.TheVariants.{Hello, Register, Unregister, Ack, Nack, BroadcastSubscribe, Ping}
use Rattle.client_messages.specs.declared.client.ClientFault.{ClientFault}
use Rattle.client_messages.specs.declared.client.ClientFault.TheVariants.{NotJson, NoType, UnknownType, BadField, NoMemory}
use Rattle.client_messages.specs.declared.client.Field.TheVariants.{ChannelId as OfChannelId, Updates as OfUpdates}
use Rattle.push_model.specs.Versions.{version_of}
use Rattle.client_messages.specs.Ids.{id_number}

-- ---- members, each by its name

-- the string under that name, where there is one
abbrev pub text_at : List ℕ → Data → Option (List ℕ)
text_at name d = option_and_then as_str (get name d)

-- the number of a user or a channel
abbrev pub id_at : List ℕ → Data → Option ℕ
id_at name d = option_and_then id_number (text_at name d)

abbrev pub uaid_made : Option ℕ → Option Uaid
uaid_made None = None
uaid_made (Some n) = Some (record { 0 = n })

abbrev pub chid_made : Option ℕ → Option ChannelId
chid_made None = None
chid_made (Some n) = Some (record { 0 = n })

abbrev pub chid_at : Data → Option ChannelId
chid_at d = chid_made (id_at (codes "channelID") d)

abbrev pub version_at : Data → Option MsgId
version_at d = option_and_then version_of (text_at (codes "version") d)

-- ---- what an acknowledgement names: a member without a channel or a version is passed over

abbrev pub update_with : Option ChannelId → Option MsgId → List (ChannelId × MsgId)
update_with None i = []
update_with (Some h) None = []
update_with (Some h) (Some i) = (h, i) ∷ []

abbrev pub update_of : Data → List (ChannelId × MsgId)
update_of d = update_with (chid_at d) (version_at d)

abbrev pub updates_of : Items → List (ChannelId × MsgId)
updates_of no_items = []
updates_of (item d ds) = update_of d ++ updates_of ds

-- ---- messages

abbrev pub channel_message : (ChannelId → ClientMsg) → Option ChannelId → Result ClientMsg ClientFault
channel_message made None = Err (BadField OfChannelId)
channel_message made (Some h) = Ok (made h)

abbrev pub ack_message : Option Items → Result ClientMsg ClientFault
ack_message None = Err (BadField OfUpdates)
ack_message (Some ds) = Ok (Ack (updates_of ds))

-- the message of that type
abbrev pub typed_message : List ℕ → Data → Result ClientMsg ClientFault
typed_message kind d =
    if bytes_eq kind (codes "hello") then Ok (Hello (uaid_made (id_at (codes "uaid") d)))
    else if bytes_eq kind (codes "register") then channel_message Register (chid_at d)
    else if bytes_eq kind (codes "unregister") then channel_message Unregister (chid_at d)
    else if bytes_eq kind (codes "ack") then ack_message (option_and_then as_array (get (codes "updates") d))
    else if bytes_eq kind (codes "nack") then Ok Nack
    else if bytes_eq kind (codes "broadcast_subscribe") then Ok BroadcastSubscribe
    else Err UnknownType

abbrev pub message_with : Option (List ℕ) → Data → Result ClientMsg ClientFault
message_with None d = Err NoType
message_with (Some kind) d = typed_message kind d

abbrev pub is_bare : Option Members → Bool
is_bare None = false
is_bare (Some no_members) = true
is_bare (Some (member k e ms)) = false

-- an object without members is a ping
abbrev pub object_message : Data → Result ClientMsg ClientFault
object_message d =
    if is_bare (as_object d) then Ok Ping
    else if is_some (as_object d) then message_with (text_at (codes "messageType") d) d
    else Err NoType

abbrev pub value_message : Option Data → Result ClientMsg ClientFault
value_message None = Err NotJson
value_message (Some d) = object_message d

-- the message of a text, or its fault
abbrev pub client_message : List ℕ → Result ClientMsg ClientFault
client_message text = value_message (read text)

-- what a call answers that may also want memory: the meaning
abbrev pub Answers : Result ClientMsg ClientFault → Result ClientMsg ClientFault → Type 0
Answers meant (Ok m) = meant ≡ Ok m
Answers meant (Err NotJson) = meant ≡ Err NotJson
Answers meant (Err NoType) = meant ≡ Err NoType
Answers meant (Err UnknownType) = meant ≡ Err UnknownType
Answers meant (Err (BadField f)) = meant ≡ Err (BadField f)
Answers meant (Err NoMemory) = Unit {0}
