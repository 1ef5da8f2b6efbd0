-- The parts of a session's end.
use Rattle.std.specs.Prelude.{◌≡◌, ◌≤◌, ◌+◌, ◌∷◌, [], ℕ, Bool, true, false, List, Result, Ok, Option, Some, None}
use Rattle.push_model.specs.SessionKey.{SessionKey}
use Rattle.push_model.specs.DeskViews.{DeskView, Calls, Mails, made}
use Rattle.push_model.specs.declared.step.Stage.TheVariants.{Clear as AtClear}
use Rattle.push_model.specs.declared.step.Step.{Step}
use Rattle.push_model.specs.declared.reply.Reply.{Reply}
use Rattle.push_model.specs.declared.reply.Reply.TheVariants.{Saving, Saved, Left, AllSaved, Names, Moved}
use Rattle.session_drive.specs.declared.saves.Handover.{Handover}
use Rattle.session_drive.specs.declared.saves.Save.{Save}
use Rattle.session_drive.specs.declared.saves.Save.TheVariants.{Kept, Passed, All, Gone}
use Rattle.session_drive.specs.declared.saves.Saves.{Saves}
use Rattle.session_drive.specs.declared.saves.Saves.TheVariants.{On, Over as IsOver}
use Rattle.session_drive.specs.Runs.{Next, Steps}
use Rattle.session_drive.specs.Begins.{Leads}
use Rattle.session_drive.specs.Shuts.{counted, rereading, saving}

-- ---- replies

abbrev pub held_by : Reply → Option ℕ
held_by (Saving n) = Some n
held_by r = None

abbrev pub save_by : Reply → Save
save_by (Saved i) = Kept
save_by (Left i reason) = Passed
save_by AllSaved = All
save_by r = Gone

abbrev pub named_by : Reply → Option ℕ
named_by (Names node at) = Some node
named_by r = None

abbrev pub is_to_clear : Reply → Bool
is_to_clear (Moved (AtClear node at)) = true
is_to_clear r = false

-- ---- steps

-- one step was made, with a reply of which the result says this
pub record OneStep {A : Type 0} (k : ℕ) (x : Step) (says : Reply → A) (result : A) (a b : DeskView) : Type 0 where
  pub reply : Reply
  pub calls : Calls a b (made k x reply ∷ [])
  pub mail : Mails a b []
  pub is : result ≡ says reply

-- ---- messages

-- m were saved, and that node is to be told
pub record HandsOver (h : Handover) (next : List Reply → Next (ℕ × Option ℕ)) (a b : DeskView) : Type 0 where
  pub saved : ℕ
  pub count : h.saved ≡ counted saved
  pub steps : Steps next (Ok (saved, h.node)) a b

-- one more message was looked at, or it is over
abbrev pub SavesOne : ℕ → SessionKey → ℕ → ℕ → ℕ → Saves → DeskView → DeskView → Type 0
SavesOne k s n c m (On count) a b = (j : ℕ) × (count ≡ counted j) × Leads (saving k s n c m) (saving k s n (c + 1) j) a b
SavesOne k s n c m (IsOver h) a b = HandsOver h (saving k s n c m) a b
