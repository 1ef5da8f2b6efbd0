-- The one spelling of each step, and the steps that have one in the grammar.
use Rattle.std.specs.Prelude.{◌≡◌, ℕ, ◌^◌, ◌<◌, ◌≤◌, List, [], ◌∷◌, ◌++◌, length, codes, decimal, IfSome}
use Rattle.hex.specs.Hex.{IsBytes}
use Rattle.push_model.specs.declared.ask.Coding.{Coding}
use Rattle.push_model.specs.declared.ask.Coding.TheVariants.{Bare, Aes128gcm}
use Rattle.push_model.specs.declared.ids.ChannelId.{ChannelId}
use Rattle.push_model.specs.declared.ids.MsgId.{MsgId}
use Rattle.push_model.specs.declared.ids.Op.{Op}
use Rattle.push_model.specs.declared.ids.Token.{Token}
use Rattle.push_model.specs.declared.ids.Uaid.{Uaid}
use Rattle.push_model.specs.declared.step.Actor.{Actor}
use Rattle.push_model.specs.declared.step.Actor.TheVariants.{Flight, Saver}
use Rattle.push_model.specs.declared.step.Step.{Step}
use Rattle.push_model.specs.declared.step.Step.TheVariants.{Create, Attach, Register, Begin, Direct, Store, GiveUp, Reread, Nudge, Heard, Lost, TakeCheck, FetchTopic, FetchPlain, TakeDirect, Ack, Tick, Claim, Unregister, Renew, Close, Release, SaveOne, Clear, Notif, Kill, Up, Expire, DropUser, ListOrphans, ListIdle, Report}
use Rattle.push_model.specs.SessionKey.{SessionKey}
use Rattle.push_model.specs.Topics.{IsTopic}
use Rattle.push_model.specs.AskValue.{AskValue}
use Rattle.schedule_text.specs.Words.{word, hex, token_word, topic_word, urgency_word, payload_word}

-- ---- words that stand together

abbrev pub user_words : Uaid → List ℕ
user_words u = word (hex u.0)

abbrev pub session_words : SessionKey → List ℕ
session_words s = word (hex s.uaid.0) ++ (word (decimal s.node) ++ word (decimal s.at))

abbrev pub op_words : Op → List ℕ
op_words o = word (decimal o.pass) ++ word (decimal o.k)

abbrev pub actor_words : Actor → List ℕ
actor_words (Flight o) = word (codes "f") ++ op_words o
actor_words (Saver s) = word (codes "s") ++ session_words s

-- the coding and the two headers have no words
abbrev pub ask_words : AskValue → List ℕ
ask_words a =
    word (decimal a.terms.ttl) ++ (word (topic_word a.terms.topic) ++ (word (urgency_word a.terms.urgency) ++ word (payload_word a.payload)))

-- ---- lines, without the LF

abbrev pub spell : Step → List ℕ
spell (Create s) = codes "create" ++ session_words s
spell (Attach s) = codes "attach" ++ session_words s
spell (Register s h t) = codes "register" ++ (session_words s ++ (word (hex h.0) ++ word (token_word t)))
spell (Begin o t a) = codes "begin" ++ (op_words o ++ (word (token_word t) ++ ask_words a))
spell (Direct o) = codes "direct" ++ op_words o
spell (Store o) = codes "store" ++ op_words o
spell (GiveUp o) = codes "giveup" ++ op_words o
spell (Reread actor) = codes "reread" ++ actor_words actor
spell (Nudge actor) = codes "nudge" ++ actor_words actor
spell (Heard actor) = codes "heard" ++ actor_words actor
spell (Lost actor) = codes "lost" ++ actor_words actor
spell (TakeCheck s) = codes "check" ++ session_words s
spell (FetchTopic s) = codes "topics" ++ session_words s
spell (FetchPlain s) = codes "plains" ++ session_words s
spell (TakeDirect s) = codes "take" ++ session_words s
spell (Ack s h i) = codes "ack" ++ (session_words s ++ (word (hex h.0) ++ word (decimal i.number)))
spell (Tick moment) = codes "tick" ++ word (decimal moment)
spell (Claim s) = codes "claim" ++ session_words s
spell (Unregister s h) = codes "unregister" ++ (session_words s ++ word (hex h.0))
spell (Renew s) = codes "renew" ++ session_words s
spell (Close s) = codes "close" ++ session_words s
spell (Release s) = codes "release" ++ session_words s
spell (SaveOne s) = codes "save" ++ session_words s
spell (Clear actor) = codes "clear" ++ actor_words actor
spell (Notif n u) = codes "notif" ++ (word (decimal n) ++ user_words u)
spell (Kill n) = codes "kill" ++ word (decimal n)
spell (Up n) = codes "up" ++ word (decimal n)
spell (Expire u) = codes "expire" ++ user_words u
spell (DropUser u) = codes "drop" ++ user_words u
spell ListOrphans = codes "orphans"
spell ListIdle = codes "idle"
spell Report = codes "report"

-- ---- ranges

abbrev pub IsMoment : ℕ → Type 0
IsMoment moment = moment < 2 ^ 62

abbrev pub IsNode : ℕ → Type 0
IsNode n = (1 ≤ n) × (n ≤ 8)

abbrev pub IsUser : Uaid → Type 0
IsUser u = u.0 < 2 ^ 128

pub record IsSession (s : SessionKey) : Type 0 where
  pub uaid : s.uaid.0 < 2 ^ 128
  pub node_low : 1 ≤ s.node
  pub node_high : s.node ≤ 8
  pub at : s.at < 2 ^ 63

pub record IsOp (o : Op) : Type 0 where
  pub pass : o.pass < 2 ^ 64
  pub k : o.k < 2 ^ 63

abbrev pub IsActor : Actor → Type 0
IsActor (Flight o) = IsOp o
IsActor (Saver s) = IsSession s

abbrev pub IsChannel : ChannelId → Type 0
IsChannel h = h.0 < 2 ^ 128

pub record IsToken (t : Token) : Type 0 where
  pub size : length t.0 ≡ 24
  pub bytes : IsBytes t.0

-- the shard of a line is 0
pub record IsId (i : MsgId) : Type 0 where
  pub shard : i.shard ≡ 0
  pub low : 1 ≤ i.number
  pub high : i.number < 2 ^ 63

pub record IsPayload (payload : List ℕ) : Type 0 where
  pub short : length payload ≤ 4096
  pub bytes : IsBytes payload

-- a message without payload is bare
abbrev pub coding_of : List ℕ → Coding
coding_of [] = Bare
coding_of (b ∷ bytes) = Aes128gcm

pub record IsLineAsk (a : AskValue) : Type 0 where
  pub ttl : a.terms.ttl ≤ 2592000
  pub topic : IfSome a.terms.topic IsTopic
  pub coding : a.terms.coding ≡ coding_of a.payload
  pub encryption : a.encryption ≡ []
  pub crypto_key : a.crypto_key ≡ []
  pub payload : IsPayload a.payload

-- The step has a line: its fields are in the ranges of the grammar, and an ask has no more than words say.
abbrev pub InRange : Step → Type 0
InRange (Create s) = IsSession s
InRange (Attach s) = IsSession s
InRange (Register s h t) = IsSession s × (IsChannel h × IsToken t)
InRange (Begin o t a) = IsOp o × (IsToken t × IsLineAsk a)
InRange (Direct o) = IsOp o
InRange (Store o) = IsOp o
InRange (GiveUp o) = IsOp o
InRange (Reread actor) = IsActor actor
InRange (Nudge actor) = IsActor actor
InRange (Heard actor) = IsActor actor
InRange (Lost actor) = IsActor actor
InRange (TakeCheck s) = IsSession s
InRange (FetchTopic s) = IsSession s
InRange (FetchPlain s) = IsSession s
InRange (TakeDirect s) = IsSession s
InRange (Ack s h i) = IsSession s × (IsChannel h × IsId i)
InRange (Tick moment) = IsMoment moment
InRange (Claim s) = IsSession s
InRange (Unregister s h) = IsSession s × IsChannel h
InRange (Renew s) = IsSession s
InRange (Close s) = IsSession s
InRange (Release s) = IsSession s
InRange (SaveOne s) = IsSession s
InRange (Clear actor) = IsActor actor
InRange (Notif n u) = IsNode n × IsUser u
InRange (Kill n) = IsNode n
InRange (Up n) = IsNode n
InRange (Expire u) = IsUser u
InRange (DropUser u) = IsUser u
InRange ListOrphans = Unit {0}
InRange ListIdle = Unit {0}
InRange Report = Unit {0}
