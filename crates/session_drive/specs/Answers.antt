-- What a session does for a text of its client.
use Rattle.std.specs.Prelude.{◌≡◌, ◌⊎◌, ◌==◌, ℕ, Bool, true, false, List, [], ◌∷◌, ◌++◌, codes, filter, if◌then◌else◌, Result, Ok, Err, Option, Some, None}
use Rattle.push_model.specs.SessionKey.{SessionKey}
use Rattle.push_model.specs.Replies.{replies_to}
use Rattle.push_model.specs.DeskViews.{DeskView, Calls, Mails}
use Rattle.push_model.specs.declared.ids.ChannelId.{ChannelId}
use Rattle.push_model.specs.declared.ids.MsgId.{MsgId}
use Rattle.push_model.specs.declared.step.Step.{Step}
use Rattle.push_model.specs.declared.step.Step.TheVariants.{Unregister as UnregisterStep, Ack as AckStep, Renew}
use Rattle.push_model.specs.declared.reply.Reply.{Reply}
use Rattle.client_messages.specs.ServerTexts.{unregistered_text}
use Rattle.client_messages.specs.declared.client.ClientMsg.{ClientMsg}
use Rattle.client_messages.specs.declared.client.ClientMsg.TheVariants.{Hello, Register, Unregister, Ack, Nack, BroadcastSubscribe, Ping}
use Rattle.client_messages.specs.declared.client.ClientFault.{ClientFault}
use Rattle.session_drive.specs.declared.ends.SessionEnd.{SessionEnd}
use Rattle.session_drive.specs.declared.ends.SessionEnd.TheVariants.{Ended, Refused, NoMemory}
use Rattle.session_drive.specs.Asked.{asked, is_no_session}
use Rattle.session_drive.specs.Registers.{Registers}
use Rattle.session_drive.specs.Runs.{Next, Asks, Over, Never, Runs, Sides, Still}

-- ---- one step

abbrev pub one_step : ℕ → Step → List Reply → Next (Unit {0})
one_step k x [] = Asks k x
one_step k x (r ∷ rs) = if is_no_session r then Over (Err Ended) else if replies_to x r then Over (Ok tt) else Never

-- these are sent where the session is there
abbrev pub unless_gone : List (List ℕ) → Reply → List (List ℕ)
unless_gone texts r = if is_no_session r then [] else texts

abbrev pub no_texts : Reply → List (List ℕ)
no_texts r = []

-- ---- acknowledgements

-- a message of another shard is passed over
abbrev pub AckSays : Bool → Result (Unit {0}) SessionEnd → Option Reply → Type 0
AckSays false (Ok u) None = Unit {0}
AckSays true (Ok u) (Some r) = is_no_session r ≡ false
AckSays true (Err Ended) (Some r) = is_no_session r ≡ true
AckSays here result reply = ⊥

pub record AckMade (k : ℕ) (s : SessionKey) (h : ChannelId) (i : MsgId) (result : Result (Unit {0}) SessionEnd) (a b : DeskView) : Type 0 where
  pub reply : Option Reply
  pub calls : Calls a b (asked k (AckStep s h i) reply)
  pub mail : Mails a b []
  pub says : AckSays (i.shard == k) result reply

-- neither the chat nor memory ended it
abbrev pub IsQuiet : Result (Unit {0}) SessionEnd → Type 0
IsQuiet (Ok u) = Unit {0}
IsQuiet (Err Ended) = Unit {0}
IsQuiet (Err e) = ⊥

-- those of messages of the shard k
abbrev pub acks_of : ℕ → List (ChannelId × MsgId) → List (ChannelId × MsgId)
acks_of k us = filter (λ u. u.1.shard == k) us

-- one after the other, until the session isn't there
abbrev pub acking : ℕ → SessionKey → List (ChannelId × MsgId) → List Reply → Next (Unit {0})
acking k s [] rs = Over (Ok tt)
acking k s (u ∷ us) [] = Asks k (AckStep s u.0 u.1)
acking k s (u ∷ us) (r ∷ rs) = if is_no_session r then Over (Err Ended) else acking k s us rs

-- ---- the whole of it

-- nothing was made, sent or drawn
abbrev pub OnlyAnswers : Result (Unit {0}) SessionEnd → Result (Unit {0}) SessionEnd → Sides → Sides → Option (List ℕ) → Option (List ℕ) → Type 0
OnlyAnswers meant result a b before after = (result ≡ meant) × Still a b × (after ≡ before)

-- these steps were made, these texts sent, and nothing drawn
abbrev pub OnlyRuns : (List Reply → Next (Unit {0})) → (Reply → List (List ℕ)) → Result (Unit {0}) SessionEnd → Sides → Sides → Option (List ℕ) → Option (List ℕ) → Type 0
OnlyRuns next texts result a b before after = Runs next texts result a b × (after ≡ before)

-- what the text says, for the session s on the shard k
abbrev pub MessageAnswered : ℕ → SessionKey → ℕ → ClientMsg → Result (Unit {0}) SessionEnd → Sides → Sides → Option (List ℕ) → Option (List ℕ) → Type 0
MessageAnswered k s port (Hello u) result a b before after = OnlyAnswers (Err Refused) result a b before after
MessageAnswered k s port (Register h) result a b before after = Registers k s h port result a b before after
MessageAnswered k s port (Unregister h) result a b before after = OnlyRuns (one_step k (UnregisterStep s h)) (unless_gone (unregistered_text h ∷ [])) result a b before after
MessageAnswered k s port (Ack us) result a b before after = OnlyRuns (acking k s (acks_of k us)) no_texts result a b before after
MessageAnswered k s port Nack result a b before after = OnlyAnswers (Ok tt) result a b before after
MessageAnswered k s port BroadcastSubscribe result a b before after = OnlyAnswers (Ok tt) result a b before after
MessageAnswered k s port Ping result a b before after = OnlyRuns (one_step k (Renew s)) (unless_gone (codes "{}" ∷ [])) result a b before after

-- a text outside the grammar is refused
abbrev pub MeaningAnswered : ℕ → SessionKey → ℕ → Result ClientMsg ClientFault → Result (Unit {0}) SessionEnd → Sides → Sides → Option (List ℕ) → Option (List ℕ) → Type 0
MeaningAnswered k s port (Ok m) result a b before after = MessageAnswered k s port m result a b before after
MeaningAnswered k s port (Err fault) result a b before after = OnlyAnswers (Err Refused) result a b before after

-- or memory was wanted before it was read
abbrev pub TextAnswered : ℕ → SessionKey → ℕ → Result ClientMsg ClientFault → Result (Unit {0}) SessionEnd → Sides → Sides → Option (List ℕ) → Option (List ℕ) → Type 0
TextAnswered k s port meaning result a b before after = MeaningAnswered k s port meaning result a b before after ⊎ OnlyAnswers (Err NoMemory) result a b before after
