-- The parts of control: one line, and the bytes of the input one after the other.
use Rattle.std.specs.Prelude.{◌≡◌, ℕ, List, [], ◌∷◌, ◌++◌, codes, Option, Some, None}
use Rattle.std.specs.Io.KnownBytes.{Appends, Keeps}
use Rattle.push_model.specs.DeskViews.{DeskView, IsHonest, Made}
use Rattle.push_model.specs.declared.reply.Reply.{Reply}
use Rattle.schedule_text.specs.Replies.{reply_line}
use Rattle.node_sweep.specs.Entries.{Does}
use Rattle.autopush_main.specs.Known.{NoFault}
use Rattle.autopush_main.specs.Lines.{NoLf}
use Rattle.node_control.specs.Commands.{command_of}
use Rattle.node_control.specs.Controls.{BlamesOutput}
use Rattle.node_control.specs.Fronts.{front_of}
use Rattle.node_control.specs.Lines.{Answered, CutsLine, IsAnswered, with_lf}
use Rattle.node_control.specs.Works.{After, Before}
use Rattle.node_control.specs.declared.commands.Command.{Command}
use Rattle.node_control.specs.declared.commands.Command.TheVariants.{Stop}
use Rattle.node_control.specs.declared.ends.ControlEnd.{ControlEnd}
use Rattle.node_control.specs.declared.ends.ControlEnd.TheVariants.{Done, ReadFault, WriteFault, NoMemory}

-- ---- one line

-- what comes before the answer was made, unless it is to stop
abbrev pub Obeys : Option Reply → Command → DeskView → DeskView → Type 0
Obeys None c a b = (c ≡ Stop) × Does a b []
Obeys (Some r) c a b = (entries : List Made) × Does a b entries × Before (IsHonest a) a.size c entries r

-- what comes after it was made
pub record Follows (c : Command) (a b : DeskView) : Type 0 where
  pub entries : List Made
  pub does : Does a b entries
  pub after : After a.size c entries

-- the line was answered
pub record AnswersLine (line : List ℕ) (a b : DeskView) (held now : Option (List ℕ)) : Type 0 where
  pub entries : List Made
  pub reply : Reply
  pub made : IsAnswered (IsHonest a) a.size line entries reply
  pub does : Does a b entries
  pub output : Appends held now (reply_line reply)

-- it was to stop
pub record StopsAt (line : List ℕ) (a b : DeskView) (held now : Option (List ℕ)) : Type 0 where
  pub stops : command_of line ≡ Stop
  pub does : Does a b []
  pub output : Keeps held now

abbrev pub DoesLine : Option ControlEnd → List ℕ → DeskView → DeskView → Option (List ℕ) → Option (List ℕ) → Type 0
DoesLine None line a b held now = AnswersLine line a b held now
DoesLine (Some Done) line a b held now = StopsAt line a b held now
DoesLine (Some (ReadFault f)) line a b held now = ⊥
DoesLine (Some (WriteFault f)) line a b held now = CutsLine line a b held now
DoesLine (Some NoMemory) line a b held now = CutsLine line a b held now

abbrev pub Blames : Option ControlEnd → ℕ → ℕ → ℕ → ℕ → Type 0
Blames None faults faults_now lulls lulls_now = NoFault faults faults_now lulls lulls_now
Blames (Some end) faults faults_now lulls lulls_now = BlamesOutput end faults faults_now lulls lulls_now

-- ---- bytes that were read

-- each whole line of them was answered, and the front of what stands behind these is kept
pub record Goes (a b : DeskView) (held now : Option (List ℕ)) (read front : List ℕ) : Type 0 where
  pub lines : List (List ℕ)
  pub behind : List ℕ
  pub split : read ≡ with_lf lines ++ behind
  pub part : NoLf behind
  pub kept : front ≡ front_of behind
  pub answered : Answered lines a b held now

-- the next line was `stop`
pub record Stopped (a b : DeskView) (held now : Option (List ℕ)) (read : List ℕ) : Type 0 where
  pub lines : List (List ℕ)
  pub more : List ℕ
  pub split : read ≡ with_lf lines ++ (codes "stop" ++ 10 ∷ more)
  pub answered : Answered lines a b held now

-- the next line was cut off
pub record CutOff (a b : DeskView) (held now : Option (List ℕ)) (read : List ℕ) : Type 0 where
  pub lines : List (List ℕ)
  pub line : List ℕ
  pub more : List ℕ
  pub split : read ≡ with_lf lines ++ (line ++ 10 ∷ more)
  pub mid : Option (List ℕ)
  pub between : DeskView
  pub answered : Answered lines a between held mid
  pub cuts : CutsLine line between b mid now

abbrev pub TakesBytes : Option ControlEnd → DeskView → DeskView → Option (List ℕ) → Option (List ℕ) → List ℕ → List ℕ → Type 0
TakesBytes None a b held now read front = Goes a b held now read front
TakesBytes (Some Done) a b held now read front = Stopped a b held now read
TakesBytes (Some (ReadFault f)) a b held now read front = ⊥
TakesBytes (Some (WriteFault f)) a b held now read front = CutOff a b held now read
TakesBytes (Some NoMemory) a b held now read front = CutOff a b held now read
