-- What the replies of a route's entries say of its answer.
use Rattle.std.specs.Prelude.{ℕ, ◌==◌, Bool, true, false, List, [], ◌∷◌, Option, Some, None}
use Rattle.push_model.specs.declared.ids.MsgId.{MsgId}
use Rattle.push_model.specs.declared.reply.Reply.{Reply}
use Rattle.push_model.specs.declared.reply.Reply.TheVariants.{NoToken, IdsSpent, Begun, Stored, End}
use Rattle.push_model.specs.DeskViews.{Made}

-- no channel has the token
abbrev pub says_gone : Reply → Bool
says_gone NoToken = true
says_gone (End code) = code == 410
says_gone _ = false

-- the user's rows are full
abbrev pub says_full : Reply → Bool
says_full (End code) = code == 503
says_full _ = false

-- every message number was given
abbrev pub says_spent : Reply → Bool
says_spent IdsSpent = true
says_spent _ = false

-- The flight ended with 201; that of a message with ttl 0 does so at once where its user isn't routed.
abbrev pub says_taken : ℕ → Reply → Bool
says_taken ttl (End code) = code == 201
says_taken ttl (Begun i None) = ttl == 0
says_taken ttl _ = false

-- the message is stored
abbrev pub says_stored : Reply → Bool
says_stored Stored = true
says_stored _ = false

-- ---- the id that the message was given

abbrev pub id_of : Reply → Option MsgId
id_of (Begun i place) = Some i
id_of _ = None

abbrev pub or_else : Option MsgId → Option MsgId → Option MsgId
or_else (Some i) other = Some i
or_else None other = other

abbrev pub begun_id : List Made → Option MsgId
begun_id [] = None
begun_id (m ∷ ms) = or_else (id_of m.reply) (begun_id ms)
