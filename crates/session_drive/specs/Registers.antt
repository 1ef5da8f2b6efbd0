-- Registering a channel.
use Rattle.std.specs.Prelude.{◌≡◌, ◌≤◌, ◌==◌, ◌+◌, ℕ, Bool, true, false, List, [], ◌∷◌, ◌++◌, drop, length, if◌then◌else◌, Result, Ok, Err, Option, Some, None}
use Rattle.push_model.specs.SessionKey.{SessionKey}
use Rattle.push_model.specs.DeskViews.{Calls, Mails}
use Rattle.push_model.specs.declared.ids.Uaid.{Uaid}
use Rattle.push_model.specs.declared.ids.ChannelId.{ChannelId}
use Rattle.push_model.specs.declared.ids.Token.{Token}
use Rattle.push_model.specs.declared.step.Step.{Step}
use Rattle.push_model.specs.declared.step.Step.TheVariants.{Register as RegisterStep}
use Rattle.push_model.specs.declared.reply.Reply.{Reply}
use Rattle.push_model.specs.declared.reply.Reply.TheVariants.{NoSession, Endpoint, TokenTaken}
use Rattle.push_outside.specs.Draws.{GivesMore}
use Rattle.endpoint_token.specs.TokenTexts.{IsToken, first_byte}
use Rattle.client_messages.specs.ServerTexts.{endpoint_text}
use Rattle.session_drive.specs.declared.ends.SessionEnd.{SessionEnd}
use Rattle.session_drive.specs.declared.ends.SessionEnd.TheVariants.{TokenSpent, Ended, ChatFault, NoMemory}
use Rattle.session_drive.specs.Chats.{Said, end_of}
use Rattle.session_drive.specs.Asked.{asked, texts_in}
use Rattle.session_drive.specs.Runs.{Next, Asks, Over, Never, Runs, Sides}

-- tokens of that user: the first byte of each is the user's
abbrev pub AreTokensOf : Uaid → List Token → Type 0
AreTokensOf u [] = Unit {0}
AreTokensOf u (t ∷ ts) = IsToken t × (t.0 ≡ first_byte u ∷ drop 1 t.0) × AreTokensOf u ts

-- and the others are drawn
abbrev pub drawn_bytes : List Token → List ℕ
drawn_bytes [] = []
drawn_bytes (t ∷ ts) = drop 1 t.0 ++ drawn_bytes ts

-- Register with each token that was drawn, until one isn't taken; n were, and four are enough
abbrev pub registering : ℕ → SessionKey → ChannelId → ℕ → List Token → List Reply → Next (Unit {0})
registering k s h n [] rs = if n == 4 then Over (Err TokenSpent) else Never
registering k s h n (t ∷ ts) [] = Asks k (RegisterStep s h t)
registering k s h n (t ∷ ts) (TokenTaken ∷ rs) = registering k s h (n + 1) ts rs
registering k s h n (t ∷ []) (Endpoint u ∷ rs) = Over (Ok tt)
registering k s h n (t ∷ []) (NoSession ∷ rs) = Over (Err Ended)
registering k s h n (t ∷ ts) (r ∷ rs) = Never

-- the endpoint of the token that was replied
abbrev pub endpoint_texts : ChannelId → ℕ → Reply → List (List ℕ)
endpoint_texts h port (Endpoint t) = endpoint_text h port t ∷ []
endpoint_texts h port r = []

pub record Registers (k : ℕ) (s : SessionKey) (h : ChannelId) (port : ℕ) (result : Result (Unit {0}) SessionEnd) (a b : Sides) (before after : Option (List ℕ)) : Type 0 where
  pub tokens : List Token
  pub few : length tokens ≤ 4
  pub own : AreTokensOf s.uaid tokens
  pub given : GivesMore before after (drawn_bytes tokens)
  pub runs : Runs (registering k s h 0 tokens) (endpoint_texts h port) result a b

-- ---- one token

-- it was given to the channel, which was told so; or it is taken, or the session isn't there
abbrev pub GivenEnds : Result Bool SessionEnd → Option Reply → Type 0
GivenEnds (Ok true) (Some (Endpoint t)) = Unit {0}
GivenEnds (Ok false) (Some TokenTaken) = Unit {0}
GivenEnds (Err Ended) (Some NoSession) = Unit {0}
GivenEnds (Err ChatFault) (Some (Endpoint t)) = Unit {0}
GivenEnds (Err NoMemory) (Some (Endpoint t)) = Unit {0}
GivenEnds (Err NoMemory) None = Unit {0}
GivenEnds answer reply = ⊥

pub record Tells (k : ℕ) (x : Step) (texts : Reply → List (List ℕ)) (result : Result Bool SessionEnd) (a b : Sides) : Type 0 where
  pub reply : Option Reply
  pub calls : Calls a.desks b.desks (asked k x reply)
  pub mail : Mails a.desks b.desks []
  pub ends : GivenEnds result reply
  pub said : Said (end_of result) (texts_in texts reply) a.chat b.chat
