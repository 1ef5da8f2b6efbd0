-- What was read, made and written for control lines, by how they ended.
use Rattle.std.specs.Prelude.{◌≡◌, ◌⊎◌, ℕ, List, ◌++◌, codes, Option, IfSome}
use Rattle.std.specs.Io.KnownBytes.{Consumes}
use Rattle.push_model.specs.DeskViews.{DeskView}
use Rattle.autopush_main.specs.Known.{CausedBy, NoFault}
use Rattle.autopush_main.specs.Lines.{NoLf}
use Rattle.autopush_main.specs.Replay.{lines_of}
use Rattle.node_control.specs.Lines.{Answered, CutsLine, IsNext, with_lf}
use Rattle.node_control.specs.declared.ends.ControlEnd.{ControlEnd}
use Rattle.node_control.specs.declared.ends.ControlEnd.TheVariants.{Done, ReadFault, WriteFault, NoMemory}

-- ---- by what was left and written, and by the desks, before and after

-- all was read, and each line answered; the last needs no LF
abbrev pub IsAllRead : Option (List ℕ) → List ℕ → List (List ℕ) → Type 0
IsAllRead before read lines = (lines_of read ≡ lines) × IfSome before (λ all. all ≡ read)

-- behind the lines stands `stop`
abbrev pub IsStopped : Option (List ℕ) → List ℕ → List (List ℕ) → Type 0
IsStopped before read lines = (behind : List ℕ) × (read ≡ with_lf lines ++ behind) × IsNext before read (codes "stop") behind

-- status 0
pub record IsOver (before after held now : Option (List ℕ)) (a b : DeskView) : Type 0 where
  pub lines : List (List ℕ)
  pub read : List ℕ
  pub input : Consumes before after read
  pub answered : Answered lines a b held now
  pub why : IsAllRead before read lines ⊎ IsStopped before read lines

-- status 5: each line that was whole before was answered
pub record IsBroken (before after held now : Option (List ℕ)) (a b : DeskView) : Type 0 where
  pub lines : List (List ℕ)
  pub behind : List ℕ
  pub input : Consumes before after (with_lf lines ++ behind)
  pub part : NoLf behind
  pub answered : Answered lines a b held now

-- statuses 6 and 7: the lines before were answered whole, and one more was cut off
pub record IsCut (before after held now : Option (List ℕ)) (a b : DeskView) : Type 0 where
  pub lines : List (List ℕ)
  pub line : List ℕ
  pub behind : List ℕ
  pub input : Consumes before after (with_lf lines ++ behind)
  pub next : IsNext before (with_lf lines ++ behind) line behind
  pub mid : Option (List ℕ)
  pub between : DeskView
  pub answered : Answered lines a between held mid
  pub cuts : CutsLine line between b mid now

abbrev pub Controls : ControlEnd → Option (List ℕ) → Option (List ℕ) → Option (List ℕ) → Option (List ℕ) → DeskView → DeskView → Type 0
Controls Done before after held now a b = IsOver before after held now a b
Controls (ReadFault f) before after held now a b = IsBroken before after held now a b
Controls (WriteFault f) before after held now a b = IsCut before after held now a b
Controls NoMemory before after held now a b = IsCut before after held now a b

-- ---- faults: of the source only `ReadFault` is one, of the sink only `WriteFault`

abbrev pub BlamesInput : ControlEnd → ℕ → ℕ → ℕ → ℕ → Type 0
BlamesInput (ReadFault f) faults faults_now lulls lulls_now = CausedBy f faults faults_now lulls lulls_now
BlamesInput Done faults faults_now lulls lulls_now = NoFault faults faults_now lulls lulls_now
BlamesInput (WriteFault f) faults faults_now lulls lulls_now = NoFault faults faults_now lulls lulls_now
BlamesInput NoMemory faults faults_now lulls lulls_now = NoFault faults faults_now lulls lulls_now

abbrev pub BlamesOutput : ControlEnd → ℕ → ℕ → ℕ → ℕ → Type 0
BlamesOutput (WriteFault f) faults faults_now lulls lulls_now = CausedBy f faults faults_now lulls lulls_now
BlamesOutput Done faults faults_now lulls lulls_now = NoFault faults faults_now lulls lulls_now
BlamesOutput (ReadFault f) faults faults_now lulls lulls_now = NoFault faults faults_now lulls lulls_now
BlamesOutput NoMemory faults faults_now lulls lulls_now = NoFault faults faults_now lulls lulls_now
