-- The parts of a hello, before its attach.
use Rattle.std.specs.Prelude.{◌≡◌, ◌≤◌, ℕ, Bool, true, false, List, [], ◌∷◌, ◌++◌, length, map, Result, Ok, Err, Option, Some, None}
use Rattle.push_model.specs.SessionKey.{SessionKey}
use Rattle.push_model.specs.DeskViews.{DeskView, Made, made, Calls, Mails}
use Rattle.push_model.specs.Replies.{replies_to}
use Rattle.push_model.specs.declared.ids.Uaid.{Uaid}
use Rattle.push_model.specs.declared.step.Step.{Step}
use Rattle.push_model.specs.declared.step.Step.TheVariants.{Create, Claim}
use Rattle.push_model.specs.declared.reply.Reply.{Reply}
use Rattle.push_model.specs.declared.reply.Reply.TheVariants.{Made as IsMade, Taken, NoUser, Stale as IsStale, Claimed}
use Rattle.push_outside.specs.Draws.{GivesMore}
use Rattle.session_drive.specs.Shards.{shard_of}
use Rattle.session_drive.specs.Asked.{asked}
use Rattle.session_drive.specs.Runs.{Next, Follows, Steps, replies_of}
use Rattle.session_drive.specs.Hellos.{Draws, attaching, session_of, tick_to, uaid_of}
use Rattle.session_drive.specs.declared.ends.SessionEnd.{SessionEnd}
use Rattle.session_drive.specs.declared.ends.SessionEnd.TheVariants.{Stale, NoMemory}

-- ---- a Tick, and a step behind it

abbrev pub ok_of : {A : Type 0} → Result A SessionEnd → Option A
ok_of (Ok x) = Some x
ok_of (Err e) = None

abbrev pub IsWant : {A : Type 0} → Result A SessionEnd → Type 0
IsWant (Ok x) = Unit {0}
IsWant (Err NoMemory) = Unit {0}
IsWant (Err e) = ⊥

-- the shard k was ticked, and the step made, if it has a reply
pub record Ticks (k at : ℕ) (x : Step) (reply : Option Reply) (a b : DeskView) : Type 0 where
  pub tick : Reply
  pub calls : Calls a b (made k (tick_to at) tick ∷ asked k x reply)
  pub mail : Mails a b []

-- the session was claimed, or there is no such user
abbrev pub ClaimSays : Result Bool SessionEnd → Option Reply → Type 0
ClaimSays (Ok true) (Some (Claimed previous)) = Unit {0}
ClaimSays (Ok false) (Some NoUser) = Unit {0}
ClaimSays (Err (Stale kept)) (Some (IsStale at)) = kept ≡ at
ClaimSays (Err NoMemory) None = Unit {0}
ClaimSays answer reply = ⊥

-- the session's user was made, or is there already
abbrev pub CreateSays : Result Bool SessionEnd → Option Reply → Type 0
CreateSays (Ok true) (Some IsMade) = Unit {0}
CreateSays (Ok false) (Some Taken) = Unit {0}
CreateSays (Err NoMemory) None = Unit {0}
CreateSays answer reply = ⊥

pub record Claims (result : Result Bool SessionEnd) (k : ℕ) (s : SessionKey) (a b : DeskView) : Type 0 where
  pub reply : Option Reply
  pub ticks : Ticks k s.at (Claim s) reply a b
  pub says : ClaimSays result reply

pub record Creates (result : Result Bool SessionEnd) (k : ℕ) (s : SessionKey) (a b : DeskView) : Type 0 where
  pub reply : Option Reply
  pub ticks : Ticks k s.at (Create s) reply a b
  pub says : CreateSays result reply

-- ---- one user that was drawn

abbrev pub created_of : SessionKey → Result Bool SessionEnd → Result (Option SessionKey) SessionEnd
created_of s (Ok true) = Ok (Some s)
created_of s (Ok false) = Ok None
created_of s (Err e) = Err e

pub record Tries (result : Result (Option SessionKey) SessionEnd) (node at : ℕ) (a b : DeskView) (before after : Option (List ℕ)) : Type 0 where
  pub bytes : List ℕ
  pub long : length bytes ≡ 16
  pub given : GivesMore before after bytes
  pub answer : Result Bool SessionEnd
  pub creates : Creates answer (shard_of (uaid_of bytes) a.size) (session_of (uaid_of bytes) node at) a b
  pub is : result ≡ created_of (session_of (uaid_of bytes) node at) answer

-- ---- what leads to an attach

-- own entries were made, and what comes next is what comes first of the others
pub record Leads {A : Type 0} (next others : List Reply → Next A) (a b : DeskView) : Type 0 where
  pub made : List Made
  pub calls : Calls a b made
  pub mail : Mails a b []
  pub follows : Follows next made
  pub on : (rs : List Reply) → next (replies_of made ++ rs) ≡ others rs

-- the session is to be attached, or it ended
abbrev pub BeginsBy : (List Reply → Next SessionKey) → ℕ → Result SessionKey SessionEnd → DeskView → DeskView → Type 0
BeginsBy next size (Ok s) a b = Leads next (attaching (shard_of s.uaid size) s) a b
BeginsBy next size (Err e) a b = Steps {A = SessionKey} next (Err e) a b

pub record Begins (next : List Uaid → List Reply → Next SessionKey) (result : Result SessionKey SessionEnd) (a b : DeskView) (before after : Option (List ℕ)) : Type 0 where
  pub drawn : List (List ℕ)
  pub draws : Draws before after drawn
  pub few : length drawn ≤ 4
  pub begins : BeginsBy (next (map uaid_of drawn)) a.size result a b
