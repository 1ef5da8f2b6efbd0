-- What a chat tells at one moment, and what was sent on it between two.
use Rattle.std.specs.Prelude.{◌≡◌, ◌≤◌, ℕ, List, Result, Ok, Err, Option, Some, None}
use Rattle.push_model.specs.DeskViews.{IsFront}
use Rattle.push_outside.specs.Counts.{Rose}
use Rattle.push_outside.specs.Chats.{told_more}
use Rattle.push_outside.specs.declared.chat.Item.{Item}
use Rattle.session_drive.specs.declared.ends.SessionEnd.{SessionEnd}
use Rattle.session_drive.specs.declared.ends.SessionEnd.TheVariants.{Stale, Outrun, Down, UaidSpent, TokenSpent, Ended, Refused, Left, ChatFault, NoMemory}

-- the items left, the texts taken and sent, the code with which it was finished, and the count of faults
pub record ChatView : Type 0 where
  pub left : Option (List Item)
  pub taken : Option (List (List ℕ))
  pub sent : Option (List (List ℕ))
  pub code : Option ℕ
  pub faults : ℕ

abbrev pub chat_view : {H : Type 0} → (H → Option (List Item)) → (H → Option (List (List ℕ))) → (H → Option (List (List ℕ))) → (H → Option ℕ) → (H → ℕ) → H → ChatView
chat_view left taken sent code faults chat = record { left = left chat; taken = taken chat; sent = sent chat; code = code chat; faults = faults chat }

-- ---- by how a call ended

abbrev pub end_of : {A : Type 0} → Result A SessionEnd → Option SessionEnd
end_of (Ok x) = None
end_of (Err e) = Some e

-- of all these texts those that were sent: a front after a fault of the chat or want of memory, else all
abbrev pub AreSent : Option SessionEnd → List (List ℕ) → List (List ℕ) → Type 0
AreSent (Some ChatFault) texts all = IsFront texts all
AreSent (Some NoMemory) texts all = IsFront texts all
AreSent end texts all = texts ≡ all

-- a fault raised the count; any other end leaves it as it was
abbrev pub FaultsBy : Option SessionEnd → ℕ → ℕ → Type 0
FaultsBy (Some ChatFault) before after = (before ≤ after) × Rose before after
FaultsBy end before after = after ≡ before

-- these texts were sent, or a front of them; the items left, the texts taken and the code stay
pub record Said (end : Option SessionEnd) (all : List (List ℕ)) (a b : ChatView) : Type 0 where
  pub texts : List (List ℕ)
  pub sent : b.sent ≡ told_more a.sent texts
  pub are : AreSent end texts all
  pub faults : FaultsBy end a.faults b.faults
  pub left : b.left ≡ a.left
  pub taken : b.taken ≡ a.taken
  pub code : b.code ≡ a.code

-- ---- sending alone

abbrev pub IsSendEnd : Option SessionEnd → Type 0
IsSendEnd None = Unit {0}
IsSendEnd (Some ChatFault) = Unit {0}
IsSendEnd (Some NoMemory) = Unit {0}
IsSendEnd (Some e) = ⊥

-- these texts were to be sent, and only the chat or want of memory ends that early
pub record Sends {A : Type 0} (result : Result A SessionEnd) (all : List (List ℕ)) (a b : ChatView) : Type 0 where
  pub only : IsSendEnd (end_of result)
  pub said : Said (end_of result) all a b
