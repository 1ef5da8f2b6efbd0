-- Control lines, and how they were answered.
use Rattle.std.specs.Prelude.{◌≡◌, ◌⊎◌, ℕ, List, [], ◌∷◌, ◌++◌, Option, IfSome}
use Rattle.std.specs.List.{AllByRecursion}
use Rattle.std.specs.Io.KnownBytes.{Appends}
use Rattle.push_model.specs.DeskViews.{DeskView, IsHonest, Made}
use Rattle.push_model.specs.declared.reply.Reply.{Reply}
use Rattle.schedule_text.specs.Replies.{reply_line}
use Rattle.node_sweep.specs.Entries.{Does}
use Rattle.autopush_main.specs.Known.{AppendsFront}
use Rattle.autopush_main.specs.Lines.{NoLf}
use Rattle.node_control.specs.Commands.{command_of}
use Rattle.node_control.specs.Works.{After, Before}

-- the lines, each with its LF
abbrev pub with_lf : List (List ℕ) → List ℕ
with_lf [] = []
with_lf (line ∷ lines) = line ++ 10 ∷ with_lf lines

-- at the front of what stands behind those that were read is this line: its LF follows, or it is the last of the input and has none
abbrev pub IsNext : Option (List ℕ) → List ℕ → List ℕ → List ℕ → Type 0
IsNext before read line behind = ((more : List ℕ) × (behind ≡ line ++ 10 ∷ more)) ⊎ ((behind ≡ line) × IfSome before (λ all. all ≡ read))

-- ---- answered

-- a line that was answered with the line of the reply r made these entries
pub record IsAnswered (H : Type 0) (size : ℕ) (line : List ℕ) (entries : List Made) (r : Reply) : Type 0 where
  pub first : List Made
  pub rest : List Made
  pub is : entries ≡ first ++ rest
  pub before : Before H size (command_of line) first r
  pub after : After size (command_of line) rest

-- the lines were answered one after the other, with this text
abbrev pub AreAnswered : Type 0 → ℕ → List (List ℕ) → List Made → List ℕ → Type 0
AreAnswered H size [] entries text = (entries ≡ []) × (text ≡ [])
AreAnswered H size (line ∷ lines) entries text =
    (one : List Made) × (others : List Made) × (r : Reply) × (behind : List ℕ) × (entries ≡ one ++ others) × (text ≡ reply_line r ++ behind)
    × IsAnswered H size line one r × AreAnswered H size lines others behind

-- These whole lines were answered, from the desks a to the desks b: what was made is what they ask for, and no more, and what was
-- written is the answers' lines. Where the desks were honest, each line of a report says that no row waits.
pub record Answered (lines : List (List ℕ)) (a b : DeskView) (held now : Option (List ℕ)) : Type 0 where
  pub entries : List Made
  pub text : List ℕ
  pub whole : AllByRecursion NoLf lines
  pub answers : AreAnswered (IsHonest a) a.size lines entries text
  pub does : Does a b entries
  pub output : Appends held now text

-- one more line did what comes before its answer, and a front of this was written
pub record CutsLine (line : List ℕ) (a b : DeskView) (held now : Option (List ℕ)) : Type 0 where
  pub entries : List Made
  pub reply : Reply
  pub before : Before (IsHonest a) a.size (command_of line) entries reply
  pub does : Does a b entries
  pub output : AppendsFront held now (reply_line reply)
