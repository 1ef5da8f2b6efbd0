-- Steps that follow from the replies before them, and what is sent by these replies.
use Rattle.std.specs.Prelude.{◌≡◌, ℕ, List, [], ◌∷◌, ◌++◌, map, Result, Ok, Err, Option}
use Rattle.push_model.specs.declared.step.Step.{Step}
use Rattle.push_model.specs.declared.reply.Reply.{Reply}
use Rattle.push_model.specs.DeskViews.{DeskView, Made, Calls, Mails}
use Rattle.push_outside.specs.declared.chat.Item.{Item}
use Rattle.session_drive.specs.declared.ends.SessionEnd.{SessionEnd}
use Rattle.session_drive.specs.declared.ends.SessionEnd.TheVariants.{ChatFault, NoMemory}
use Rattle.session_drive.specs.Chats.{ChatView, chat_view, Said, end_of}

-- what comes after some replies: a step on a shard, or the end with an answer; or no such replies come
pub data Next (A : Type 0) : Type 0 where
  Asks : (shard : ℕ) → (step : Step) → Next A
  Over : (answer : Result A SessionEnd) → Next A
  Never : Next A

abbrev pub replies_of : List Made → List Reply
replies_of ms = map (λ m. m.reply) ms

-- each step is the one that comes after the replies before it
abbrev pub Follows : {A : Type 0} → (List Reply → Next A) → List Made → Type 0
Follows next [] = Unit {0}
Follows next (m ∷ ms) = (next [] ≡ Asks m.shard m.step) × Follows (λ rs. next (m.reply ∷ rs)) ms

-- ---- ends

-- no reply said that it ends with an error
abbrev pub IsOpen : {A : Type 0} → Next A → Type 0
IsOpen (Asks k x) = Unit {0}
IsOpen (Over (Ok x)) = Unit {0}
IsOpen (Over (Err e)) = ⊥
IsOpen Never = ⊥

-- the end is the one that comes then; want of memory comes before it
abbrev pub EndsBy : {A : Type 0} → Next A → Result A SessionEnd → Type 0
EndsBy next (Err NoMemory) = IsOpen next
EndsBy next answer = next ≡ Over answer

-- the same where texts are sent: a fault of the chat comes before it too
abbrev pub SendEndsBy : {A : Type 0} → Next A → Result A SessionEnd → Type 0
SendEndsBy next (Err ChatFault) = IsOpen next
SendEndsBy next answer = EndsBy next answer

-- Own entries were made, and no mail: each step is the one that comes next, up to the end.
pub record Steps {A : Type 0} (next : List Reply → Next A) (result : Result A SessionEnd) (a b : DeskView) : Type 0 where
  pub made : List Made
  pub calls : Calls a b made
  pub mail : Mails a b []
  pub follows : Follows next made
  pub ends : EndsBy (next (replies_of made)) result

-- ---- desks and a chat

pub record Sides : Type 0 where
  pub desks : DeskView
  pub chat : ChatView

abbrev pub sides : {D H : Type 0} → (D → DeskView) → (H → Option (List Item)) → (H → Option (List (List ℕ))) → (H → Option (List (List ℕ))) → (H → Option ℕ) → (H → ℕ) → D → H → Sides
sides view left taken sent code faults desks chat = record { desks = view desks; chat = chat_view left taken sent code faults chat }

-- nothing was made, and nothing sent
pub record Still (a b : Sides) : Type 0 where
  pub calls : Calls a.desks b.desks []
  pub mail : Mails a.desks b.desks []
  pub chat : b.chat ≡ a.chat

-- the texts that these replies ask for, in order
abbrev pub texts_by : (Reply → List (List ℕ)) → List Reply → List (List ℕ)
texts_by texts [] = []
texts_by texts (r ∷ rs) = texts r ++ texts_by texts rs

-- The same, and to each reply its texts were sent, or a front of all where the chat or memory ended it.
pub record Runs {A : Type 0} (next : List Reply → Next A) (texts : Reply → List (List ℕ)) (result : Result A SessionEnd) (a b : Sides) : Type 0 where
  pub made : List Made
  pub calls : Calls a.desks b.desks made
  pub mail : Mails a.desks b.desks []
  pub follows : Follows next made
  pub ends : SendEndsBy (next (replies_of made)) result
  pub said : Said (end_of result) (texts_by texts (replies_of made)) a.chat b.chat
