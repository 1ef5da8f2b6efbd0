-- One turn of a session.
use Rattle.std.specs.Prelude.{◌≡◌, ◌+◌, ◌-◌, ◌^◌, ◌==◌, ℕ, Bool, true, false, min, List, [], ◌∷◌, ◌++◌, length, if◌then◌else◌, Result, Ok, Err}
use Rattle.push_model.specs.SessionKey.{SessionKey}
use Rattle.push_model.specs.declared.step.Step.TheVariants.{TakeDirect, TakeCheck, FetchTopic, FetchPlain}
use Rattle.push_model.specs.declared.reply.Reply.{Reply}
use Rattle.push_model.specs.declared.reply.Reply.TheVariants.{NoSession, Due, NotDue}
use Rattle.session_drive.specs.declared.ends.SessionEnd.{SessionEnd}
use Rattle.session_drive.specs.declared.ends.SessionEnd.TheVariants.{Ended}
use Rattle.session_drive.specs.declared.turns.Turned.{Turned}
use Rattle.session_drive.specs.declared.turns.Turned.TheVariants.{Idle, Sent}
use Rattle.session_drive.specs.Asked.{page_of, page_texts, is_no_session}
use Rattle.session_drive.specs.Runs.{Next, Asks, Over, Never, Runs, Sides}

abbrev pub is_due : Reply → Bool
is_due Due = true
is_due r = false

abbrev pub IsDue : Bool → Reply → Type 0
IsDue due r = is_due r ≡ due

abbrev pub unless_ended : Reply → Next Turned → Next Turned
unless_ended r next = if is_no_session r then Over (Err Ended) else next

-- a turn that fetched nothing: so many notifications were sent
abbrev pub turned : ℕ → Turned
turned n = if n == 0 then Idle else Sent n

-- what comes after the reply to TakeCheck, where so many notifications were sent before
abbrev pub check_next : ℕ → SessionKey → ℕ → Reply → Next Turned
check_next k s n NoSession = Over (Err Ended)
check_next k s n Due = Asks k (FetchTopic s)
check_next k s n NotDue = Over (Ok (turned n))
check_next k s n r = Never

-- the replies to TakeDirect, TakeCheck, FetchTopic and FetchPlain, in this order, and what comes after so many of them
abbrev pub turn_next : ℕ → SessionKey → List Reply → Next Turned
turn_next k s [] = Asks k (TakeDirect s)
turn_next k s (d ∷ []) = unless_ended d (Asks k (TakeCheck s))
turn_next k s (d ∷ c ∷ []) = check_next k s (length (page_of d)) c
turn_next k s (d ∷ c ∷ t ∷ []) = unless_ended t (Asks k (FetchPlain s))
turn_next k s (d ∷ c ∷ t ∷ p ∷ rs) = unless_ended p (Over (Ok (Sent (min (length (page_of d) + length (page_of t) + length (page_of p)) (2 ^ 64 - 1)))))

-- a turn on the shard k: each message of its pages is sent as one notification
abbrev pub TurnMade : ℕ → SessionKey → Result Turned SessionEnd → Sides → Sides → Type 0
TurnMade k s result a b = Runs (turn_next k s) page_texts result a b
