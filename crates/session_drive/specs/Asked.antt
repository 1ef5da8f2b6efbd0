-- One step that was made, and what was sent by its reply.
use Rattle.std.specs.Prelude.{◌≡◌, ℕ, Bool, true, false, List, [], ◌∷◌, length, map, Result, Ok, Err, Option, Some, None}
use Rattle.push_model.specs.declared.step.Step.{Step}
use Rattle.push_model.specs.declared.reply.Reply.{Reply}
use Rattle.push_model.specs.declared.reply.Reply.TheVariants.{NoSession, Page}
use Rattle.push_model.specs.DeskViews.{Made, made, Calls, Mails}
use Rattle.push_model.specs.Replies.{replies_to}
use Rattle.push_model.specs.MessageValue.{MessageValue}
use Rattle.client_messages.specs.ServerTexts.{notification_text}
use Rattle.session_drive.specs.declared.ends.SessionEnd.{SessionEnd}
use Rattle.session_drive.specs.declared.ends.SessionEnd.TheVariants.{Ended, ChatFault, NoMemory}
use Rattle.session_drive.specs.Chats.{Said, end_of}
use Rattle.session_drive.specs.Runs.{Sides}

abbrev pub is_no_session : Reply → Bool
is_no_session NoSession = true
is_no_session r = false

-- the messages of a page; no other reply has any
abbrev pub page_of : Reply → List MessageValue
page_of (Page messages) = messages
page_of r = []

-- each message of a page is sent as one notification
abbrev pub page_texts : Reply → List (List ℕ)
page_texts r = map notification_text (page_of r)

-- so many messages are in it
abbrev pub IsCount : ℕ → Reply → Type 0
IsCount n r = n ≡ length (page_of r)

-- nothing else is asked of it
abbrev pub IsAny : {A : Type 0} → A → Reply → Type 0
IsAny x r = Unit {0}

-- ---- where the reply is there

-- the entry of a step, where it was made
abbrev pub asked : ℕ → Step → Option Reply → List Made
asked k x None = []
asked k x (Some r) = made k x r ∷ []

-- a reply that this kind of step can have
abbrev pub Fits : Step → Option Reply → Type 0
Fits x None = Unit {0}
Fits x (Some r) = replies_to x r ≡ true

abbrev pub texts_in : (Reply → List (List ℕ)) → Option Reply → List (List ℕ)
texts_in texts None = []
texts_in texts (Some r) = texts r

-- NoSession ends it, and nothing else that was replied; memory may end it before the reply
abbrev pub AskEnds : {A : Type 0} → (A → Reply → Type 0) → Result A SessionEnd → Option Reply → Type 0
AskEnds Means (Ok x) (Some r) = (is_no_session r ≡ false) × Means x r
AskEnds Means (Err Ended) (Some r) = is_no_session r ≡ true
AskEnds Means (Err ChatFault) (Some r) = is_no_session r ≡ false
AskEnds Means (Err NoMemory) (Some r) = is_no_session r ≡ false
AskEnds Means (Err NoMemory) None = Unit {0}
AskEnds Means result reply = ⊥

-- a step was made, and its texts were sent
pub record Asked {A : Type 0} (k : ℕ) (x : Step) (texts : Reply → List (List ℕ)) (Means : A → Reply → Type 0) (result : Result A SessionEnd) (a b : Sides) : Type 0 where
  pub reply : Option Reply
  pub calls : Calls a.desks b.desks (asked k x reply)
  pub mail : Mails a.desks b.desks []
  pub fits : Fits x reply
  pub ends : AskEnds Means result reply
  pub said : Said (end_of result) (texts_in texts reply) a.chat b.chat
