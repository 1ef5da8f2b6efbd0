-- What the words of a line are to be, by its name.
use Rattle.std.specs.Prelude.{ℕ, ◌^◌, ◌-◌, List, [], ◌∷◌, codes, Bool, true, false, ◌||◌, Option, Some, None, is_some, if◌then◌else◌}
use Rattle.std.specs.Str.{bytes_eq}
use Rattle.schedule_text.specs.declared.kind.Kind.{Kind}
use Rattle.schedule_text.specs.declared.kind.Kind.TheVariants as kind
use Rattle.schedule_text.specs.declared.kind.Shape.{Shape}
use Rattle.schedule_text.specs.declared.kind.Shape.TheVariants as shape
use Rattle.schedule_text.specs.Reading.{numeral_value, decimal_value, token_value, topic_value, urgency_value, payload_value}

-- a word of that kind
abbrev pub is_kind : Kind → List ℕ → Bool
is_kind kind.Actor w = bytes_eq w (codes "f") || bytes_eq w (codes "s")
is_kind kind.User w = is_some (numeral_value 16 (2 ^ 128) w)
is_kind kind.Node w = is_some (decimal_value 1 8 w)
is_kind kind.At w = is_some (decimal_value 0 (2 ^ 63 - 1) w)
is_kind kind.Moment w = is_some (decimal_value 0 (2 ^ 62 - 1) w)
is_kind kind.Pass w = is_some (decimal_value 0 (2 ^ 64 - 1) w)
is_kind kind.Flight w = is_some (decimal_value 0 (2 ^ 63 - 1) w)
is_kind kind.Channel w = is_some (numeral_value 16 (2 ^ 128) w)
is_kind kind.Token w = is_some (token_value w)
is_kind kind.Id w = is_some (decimal_value 1 (2 ^ 63 - 1) w)
is_kind kind.Ttl w = is_some (decimal_value 0 2592000 w)
is_kind kind.Topic w = is_some (topic_value w)
is_kind kind.Urgency w = is_some (urgency_value w)
is_kind kind.Payload w = is_some (payload_value w)

-- decimal numbers
abbrev pub is_number : Kind → Bool
is_number kind.Actor = false
is_number kind.User = false
is_number kind.Node = true
is_number kind.At = true
is_number kind.Moment = true
is_number kind.Pass = true
is_number kind.Flight = true
is_number kind.Channel = false
is_number kind.Token = false
is_number kind.Id = true
is_number kind.Ttl = true
is_number kind.Topic = false
is_number kind.Urgency = false
is_number kind.Payload = false

-- the words behind the name
abbrev pub kinds : Shape → List Kind
kinds shape.Session = kind.User ∷ kind.Node ∷ kind.At ∷ []
kinds shape.Register = kind.User ∷ kind.Node ∷ kind.At ∷ kind.Channel ∷ kind.Token ∷ []
kinds shape.Unregister = kind.User ∷ kind.Node ∷ kind.At ∷ kind.Channel ∷ []
kinds shape.Ack = kind.User ∷ kind.Node ∷ kind.At ∷ kind.Channel ∷ kind.Id ∷ []
kinds shape.Begin = kind.Pass ∷ kind.Flight ∷ kind.Token ∷ kind.Ttl ∷ kind.Topic ∷ kind.Urgency ∷ kind.Payload ∷ []
kinds shape.Op = kind.Pass ∷ kind.Flight ∷ []
kinds shape.Actor = kind.Actor ∷ []
kinds shape.Flight = kind.Actor ∷ kind.Pass ∷ kind.Flight ∷ []
kinds shape.Saver = kind.Actor ∷ kind.User ∷ kind.Node ∷ kind.At ∷ []
kinds shape.Tick = kind.Moment ∷ []
kinds shape.Notif = kind.Node ∷ kind.User ∷ []
kinds shape.Node = kind.Node ∷ []
kinds shape.User = kind.User ∷ []
kinds shape.Alone = []

-- the first of these names that is the word
abbrev pub shape_by : List (List ℕ × Shape) → List ℕ → Option Shape
shape_by [] w = None
shape_by (name ∷ names) w = if bytes_eq w name.0 then Some name.1 else shape_by names w

abbrev pub shard_shapes : List (List ℕ × Shape)
shard_shapes =
    (codes "tick", shape.Tick) ∷ (codes "notif", shape.Notif) ∷ (codes "kill", shape.Node) ∷ (codes "up", shape.Node) ∷ (codes "expire", shape.User) ∷ (codes "drop", shape.User)
    ∷ (codes "orphans", shape.Alone) ∷ (codes "idle", shape.Alone) ∷ (codes "report", shape.Alone) ∷ []

abbrev pub flight_shapes : List (List ℕ × Shape)
flight_shapes =
    (codes "begin", shape.Begin) ∷ (codes "direct", shape.Op) ∷ (codes "store", shape.Op) ∷ (codes "giveup", shape.Op) ∷ (codes "reread", shape.Actor) ∷ (codes "nudge", shape.Actor)
    ∷ (codes "heard", shape.Actor) ∷ (codes "lost", shape.Actor) ∷ (codes "clear", shape.Actor) ∷ shard_shapes

-- the names of all kinds of step
abbrev pub shapes : List (List ℕ × Shape)
shapes =
    (codes "register", shape.Register) ∷ (codes "unregister", shape.Unregister) ∷ (codes "ack", shape.Ack) ∷ (codes "create", shape.Session) ∷ (codes "claim", shape.Session)
    ∷ (codes "attach", shape.Session) ∷ (codes "check", shape.Session) ∷ (codes "topics", shape.Session) ∷ (codes "plains", shape.Session) ∷ (codes "take", shape.Session)
    ∷ (codes "renew", shape.Session) ∷ (codes "close", shape.Session) ∷ (codes "release", shape.Session) ∷ (codes "save", shape.Session) ∷ flight_shapes

abbrev pub shape_of : List ℕ → Option Shape
shape_of w = shape_by shapes w

-- the word behind the name says which actor follows
abbrev pub actor_shape : List ℕ → Shape
actor_shape tag = if bytes_eq tag (codes "f") then shape.Flight else if bytes_eq tag (codes "s") then shape.Saver else shape.Actor

abbrev pub tagged : Shape → List ℕ → Shape
tagged shape.Actor tag = actor_shape tag
tagged shape.Session tag = shape.Session
tagged shape.Register tag = shape.Register
tagged shape.Unregister tag = shape.Unregister
tagged shape.Ack tag = shape.Ack
tagged shape.Begin tag = shape.Begin
tagged shape.Op tag = shape.Op
tagged shape.Flight tag = shape.Flight
tagged shape.Saver tag = shape.Saver
tagged shape.Tick tag = shape.Tick
tagged shape.Notif tag = shape.Notif
tagged shape.Node tag = shape.Node
tagged shape.User tag = shape.User
tagged shape.Alone tag = shape.Alone

-- ---- texts

abbrev pub noun : Kind → List ℕ
noun kind.Actor = codes "actor"
noun kind.User = codes "uaid"
noun kind.Node = codes "node"
noun kind.At = codes "session's moment"
noun kind.Moment = codes "moment"
noun kind.Pass = codes "pass"
noun kind.Flight = codes "flight's number"
noun kind.Channel = codes "channel id"
noun kind.Token = codes "token"
noun kind.Id = codes "message's number"
noun kind.Ttl = codes "ttl"
noun kind.Topic = codes "topic"
noun kind.Urgency = codes "urgency"
noun kind.Payload = codes "payload"

abbrev pub form : Kind → List ℕ
form kind.Actor = codes "f for a flight, or s for a saver"
form kind.User = codes "1 to 32 digits 0-9 a-f, without a 0 in front"
form kind.Node = codes "a number from 1 to 8"
form kind.At = codes "a number from 0 to 9223372036854775807"
form kind.Moment = codes "a number from 0 to 4611686018427387903"
form kind.Pass = codes "a number from 0 to 18446744073709551615"
form kind.Flight = codes "a number from 0 to 9223372036854775807"
form kind.Channel = codes "1 to 32 digits 0-9 a-f, without a 0 in front"
form kind.Token = codes "1 to 48 digits 0-9 a-f, without a 0 in front"
form kind.Id = codes "a number from 1 to 9223372036854775807"
form kind.Ttl = codes "a number from 0 to 2592000"
form kind.Topic = codes "1 to 32 characters A-Z a-z 0-9 - _, or . for none"
form kind.Urgency = codes "very-low, low, normal or high"
form kind.Payload = codes "2 to 8192 digits 0-9 a-f, two a byte, or . for none"
