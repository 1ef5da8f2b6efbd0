-- The texts of the server: compact JSON, with the keys in the order of their bytes.
use Rattle.std.specs.Prelude.{ℕ, ◌==◌, List, [], ◌++◌, codes, decimal, length, if◌then◌else◌}
use Rattle.json.specs.Print.{quoted}
use Rattle.push_model.specs.declared.ids.Uaid.{Uaid}
use Rattle.push_model.specs.declared.ids.ChannelId.{ChannelId}
use Rattle.push_model.specs.declared.ids.MsgId.{MsgId}
use Rattle.push_model.specs.declared.ids.Token.{Token}
use Rattle.push_model.specs.declared.ask.Coding.{Coding}
use Rattle.push_model.specs.declared.ask.Coding.TheVariants.{Bare, Aes128gcm, Aesgcm}
use Rattle.push_model.specs.AskValue.{AskValue}
use Rattle.push_model.specs.MessageValue.{MessageValue}
use Rattle.push_model.specs.Versions.{version_text}
use Rattle.endpoint_token.specs.TokenTexts.{spelled}
use Rattle.client_messages.specs.Ids.{payload_text, uaid_text, chid_text}
use Rattle.client_messages.specs.declared.server.ServerMsg.{ServerMsg}
use Rattle.client_messages.specs.declared.server.ServerMsg.TheVariants.{Hello, Endpoint, Unregistered, Notification, Pong}

abbrev pub hello_text : Uaid → List ℕ
hello_text u =
    codes "{\"broadcasts\":{},\"messageType\":\"hello\",\"status\":200,\"uaid\":\"" ++ (uaid_text u ++ codes "\",\"use_webpush\":true}")

abbrev pub endpoint_text : ChannelId → ℕ → Token → List ℕ
endpoint_text h port t =
    codes "{\"channelID\":\"" ++ (chid_text h
    ++ (codes "\",\"messageType\":\"register\",\"pushEndpoint\":\"http://localhost:" ++ (decimal port
    ++ (codes "/wpush/v1/" ++ (spelled t ++ codes "\",\"status\":200}")))))

abbrev pub unregistered_text : ChannelId → List ℕ
unregistered_text h = codes "{\"channelID\":\"" ++ (chid_text h ++ codes "\",\"messageType\":\"unregister\",\"status\":200}")

-- ---- notifications

-- the two headers of the older coding, each left out where it is empty
abbrev pub key_part : List ℕ → List ℕ
key_part value = if length value == 0 then [] else codes "\"crypto_key\":" ++ (quoted value ++ codes ",")

abbrev pub salt_part : List ℕ → List ℕ
salt_part value = if length value == 0 then [] else codes ",\"encryption\":" ++ quoted value

abbrev pub aesgcm_with : List ℕ → List ℕ → List ℕ
aesgcm_with key salt = codes "{" ++ (key ++ (codes "\"encoding\":\"aesgcm\"" ++ (salt ++ codes "}")))

-- the headers of a coding
abbrev pub coding_headers : Coding → AskValue → List ℕ
coding_headers Bare a = []
coding_headers Aes128gcm a = codes "{\"encoding\":\"aes128gcm\"}"
coding_headers Aesgcm a = aesgcm_with (key_part a.crypto_key) (salt_part a.encryption)

-- a payload and these headers
abbrev pub data_with : List ℕ → List ℕ → List ℕ
data_with payload headers =
    if length payload == 0 then []
    else codes "\"data\":\"" ++ (payload_text payload ++ (codes "\",\"headers\":" ++ (headers ++ codes ",")))

-- the payload and the headers of what was asked
abbrev pub data_part : AskValue → List ℕ
data_part a = data_with a.payload (coding_headers a.terms.coding a)

unfoldable pub notification_with : ChannelId → List ℕ → MsgId → List ℕ
notification_with h data_and_headers i =
    codes "{\"channelID\":\"" ++ (chid_text h ++ (codes "\"," ++ (data_and_headers
    ++ (codes "\"messageType\":\"notification\",\"version\":\"" ++ (version_text i ++ codes "\"}")))))

abbrev pub notification_text : MessageValue → List ℕ
notification_text m = notification_with m.chid (data_part m.ask) m.id

-- ---- every message

abbrev pub server_text : ServerMsg → List ℕ
server_text (Hello u) = hello_text u
server_text (Endpoint h port t) = endpoint_text h port t
server_text (Unregistered h) = unregistered_text h
server_text (Notification m) = notification_text m.now
server_text Pong = codes "{}"
