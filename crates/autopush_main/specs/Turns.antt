-- What one line does, and one turn of the replay.
use Rattle.std.specs.Prelude.{◌≡◌, ℕ, ◌≤◌, ◌<◌, ◌+◌, ◌⊎◌, List, [], ◌∷◌, ◌++◌, length, Result, Ok, Err, Option, Some, None, IfSome}
use Rattle.std.specs.Io.KnownBytes.{Appends, Consumes, Keeps}
use Rattle.push_model.specs.Worlds.{World}
use Rattle.push_model.specs.Steps.{step}
use Rattle.push_model.specs.declared.step.Step.{Step}
use Rattle.schedule_text.specs.declared.fault.LineFault.{LineFault}
use Rattle.schedule_text.specs.declared.fault.LineFault.TheVariants.{Outside, NoMemory}
use Rattle.schedule_text.specs.Spelling.{spell}
use Rattle.schedule_text.specs.Replies.{reply_line}
use Rattle.autopush_main.specs.Known.{AppendsFront, NoFault, CausedBy}
use Rattle.autopush_main.specs.Lines.{NoLf, Moves}
use Rattle.autopush_main.specs.Refusals.{IsWhy, IsRefusalOf}
use Rattle.autopush_main.specs.Replay.{IsLine, AreLines, IsRefused, IsTaken, lines_of, text, refusal, limit, IsWholeLine, IsDone, IsBroken, IsCut}
use Rattle.autopush_main.specs.declared.endings.Cause.{Cause}
use Rattle.autopush_main.specs.declared.endings.Refusal.{Refusal}
use Rattle.autopush_main.specs.declared.endings.End.{End}
use Rattle.autopush_main.specs.declared.endings.End.TheVariants as ends

-- bytes with no LF as lines
abbrev pub lone : List ℕ → List (List ℕ)
lone [] = []
lone (b ∷ bytes) = (b ∷ bytes) ∷ []

-- the line is that of the step, whose reply is this text
pub record Steps (line reply : List ℕ) (old new : World) : Type 0 where
  pub made : Step
  pub is_line : IsLine line made
  pub moved : new ≡ (step old made).0
  pub replied : reply ≡ reply_line (step old made).1

-- this is the text of the reply to the line; at want of memory the step was made or wasn't
abbrev pub Answers : Result (Unit {0}) LineFault → List ℕ → World → World → List ℕ → Type 0
Answers (Ok _) line old new reply = Steps line reply old new
Answers (Err Outside) line old new reply = (new ≡ old) × IsRefused line
Answers (Err NoMemory) line old new reply = (new ≡ old) ⊎ ((told : List ℕ) × Steps line told old new)

-- the reply to the line was written
pub record Writes (line : List ℕ) (old new : World) (held now : Option (List ℕ)) : Type 0 where
  pub reply : List ℕ
  pub steps : Steps line reply old new
  pub output : Appends held now reply

abbrev pub NotTaken : List ℕ → ℕ → Type 0
NotTaken line count = IsRefused line ⊎ (count ≡ limit)

-- this is the line that stands behind so many others, and why it is refused
abbrev pub IsRefusedAs : Refusal → List ℕ → ℕ → Type 0
IsRefusedAs r line count = (r.line ≡ count + 1) × IsWhy r.cause line count

-- a front of the reply to the line was written
pub record CutsSteps (line : List ℕ) (count : ℕ) (old new : World) (held now : Option (List ℕ)) : Type 0 where
  pub room : count < limit
  pub reply : List ℕ
  pub steps : Steps line reply old new
  pub output : AppendsFront held now reply

-- a front of its refusal was written
pub record CutsRefused (line : List ℕ) (count : ℕ) (old new : World) (held now : Option (List ℕ)) : Type 0 where
  pub same : new ≡ old
  pub cause : NotTaken line count
  pub output : AppendsFront held now (refusal (count + 1))

-- nothing was done
pub record Rests (old new : World) (held now : Option (List ℕ)) : Type 0 where
  pub same : new ≡ old
  pub output : Keeps held now

-- what a line does that stands behind count others
abbrev pub DoesLine : Option End → List ℕ → ℕ → World → World → Option (List ℕ) → Option (List ℕ) → Type 0
DoesLine None line count old new held now = (count < limit) × Writes line old new held now
DoesLine (Some (ends.Refused r)) line count old new held now = IsRefusedAs r line count × Appends held now (refusal (count + 1))
DoesLine (Some (ends.WriteFault f)) line count old new held now = CutsSteps line count old new held now ⊎ CutsRefused line count old new held now
DoesLine (Some ends.NoMemory) line count old new held now = Rests old new held now ⊎ CutsSteps line count old new held now ⊎ CutsRefused line count old new held now
DoesLine (Some ends.Done) line count old new held now = ⊥
DoesLine (Some (ends.ReadFault f)) line count old new held now = ⊥

-- a whole line was read and answered
pub record Advances (before after : Option (List ℕ)) (pending rest : List ℕ) (old new : World) (held now : Option (List ℕ)) : Type 0 where
  pub made : Step
  pub taken : IsTaken made
  pub read : List ℕ
  pub input : Consumes before after read
  pub joined : pending ++ read ≡ spell made ++ 10 ∷ rest
  pub moved : new ≡ (step old made).0
  pub output : Appends held now (reply_line (step old made).1)

-- the input ended, with one line more or none
pub record Finishes (before after : Option (List ℕ)) (pending : List ℕ) (count : ℕ) (old : World) (held now : Option (List ℕ)) : Type 0 where
  pub read : List ℕ
  pub input : Consumes before after read
  pub all_read : IfSome before (λ all. all ≡ read)
  pub steps : List Step
  pub lines : AreLines (lines_of (pending ++ read)) steps
  pub room : count + length steps ≤ limit
  pub output : Appends held now (text old steps)

-- the first line behind is such a line
abbrev pub FirstIs : (List ℕ → Type 0) → Option (List ℕ) → List ℕ → Type 0
FirstIs P before pending = IfSome before (λ all. (line : List ℕ) × (more : List (List ℕ)) × (lines_of (pending ++ all) ≡ line ∷ more) × P line)

-- it isn't taken
abbrev pub RefusesFirst : Option (List ℕ) → List ℕ → ℕ → Type 0
RefusesFirst before pending count = FirstIs (λ line. NotTaken line count) before pending

-- a line was refused
pub record Refuses (before after : Option (List ℕ)) (pending : List ℕ) (count : ℕ) (held now : Option (List ℕ)) : Type 0 where
  pub read : List ℕ
  pub input : Consumes before after read
  pub refused : RefusesFirst before pending count
  pub output : Appends held now (refusal (count + 1))

-- this one was, and for this cause
pub record RefusesAs (r : Refusal) (before after : Option (List ℕ)) (pending : List ℕ) (count : ℕ) (held now : Option (List ℕ)) : Type 0 where
  pub refuses : Refuses before after pending count held now
  pub number : r.line ≡ count + 1
  pub cause : FirstIs (λ line. IsWhy r.cause line count) before pending

-- the step of the first line was made, and a front of its reply was written; the last line of the input may have no LF
pub record CutsStep (behind : List ℕ) (before : Option (List ℕ)) (read : List ℕ) (count : ℕ) (old new : World) (held now : Option (List ℕ)) : Type 0 where
  pub room : count < limit
  pub made : Step
  pub taken : IsTaken made
  pub line : IsWholeLine behind made ⊎ ((behind ≡ spell made) × IfSome before (λ all. all ≡ read))
  pub moved : new ≡ (step old made).0
  pub output : AppendsFront held now (reply_line (step old made).1)

-- a front of the refusal of the first line was written
pub record CutsFirst (before : Option (List ℕ)) (pending : List ℕ) (count : ℕ) (held now : Option (List ℕ)) : Type 0 where
  pub refused : RefusesFirst before pending count
  pub output : AppendsFront held now (refusal (count + 1))

-- writing broke off, with status 6, or memory ran out, with status 7
pub record Cuts (status : ℕ) (before after : Option (List ℕ)) (pending : List ℕ) (count : ℕ) (old new : World) (held now : Option (List ℕ)) : Type 0 where
  pub read : List ℕ
  pub input : Consumes before after read
  pub how : ((status ≡ 7) × Keeps held now) ⊎ CutsStep (pending ++ read) before read count old new held now ⊎ CutsFirst before pending count held now

abbrev pub Turns : Option End → Option (List ℕ) → Option (List ℕ) → List ℕ → List ℕ → ℕ → World → World → Option (List ℕ) → Option (List ℕ) → Type 0
Turns None before after pending rest count old new held now = (count < limit) × Advances before after pending rest old new held now
Turns (Some ends.Done) before after pending rest count old new held now = Finishes before after pending count old held now
Turns (Some (ends.Refused r)) before after pending rest count old new held now = RefusesAs r before after pending count held now
Turns (Some (ends.ReadFault f)) before after pending rest count old new held now = Moves before after pending rest × NoLf rest × Keeps held now
Turns (Some (ends.WriteFault f)) before after pending rest count old new held now = Cuts 6 before after pending count old new held now
Turns (Some ends.NoMemory) before after pending rest count old new held now = Cuts 7 before after pending count old new held now

-- what naming a refused line wrote
abbrev pub RefusesBy : End → Cause → ℕ → Option (List ℕ) → Option (List ℕ) → Type 0
RefusesBy (ends.Refused r) cause count held now = (r.line ≡ count + 1) × (r.cause ≡ cause) × Appends held now (refusal (count + 1))
RefusesBy (ends.WriteFault f) cause count held now = AppendsFront held now (refusal (count + 1))
RefusesBy ends.NoMemory cause count held now = AppendsFront held now (refusal (count + 1))
RefusesBy ends.Done cause count held now = ⊥
RefusesBy (ends.ReadFault f) cause count held now = ⊥

-- there was no line, or one that was answered
pub record Last (line : List ℕ) (count : ℕ) (old : World) (held now : Option (List ℕ)) : Type 0 where
  pub steps : List Step
  pub lines : AreLines (lone line) steps
  pub room : count + length steps ≤ limit
  pub output : Appends held now (text old steps)

-- what the last bytes of the input do
abbrev pub DoesLast : Option End → List ℕ → ℕ → World → World → Option (List ℕ) → Option (List ℕ) → Type 0
DoesLast None line count old new held now = ⊥
DoesLast (Some ends.Done) line count old new held now = Last line count old held now
DoesLast (Some (ends.Refused r)) line count old new held now = (0 < length line) × DoesLine (Some (ends.Refused r)) line count old new held now
DoesLast (Some (ends.WriteFault f)) line count old new held now = (0 < length line) × DoesLine (Some (ends.WriteFault f)) line count old new held now
DoesLast (Some ends.NoMemory) line count old new held now = (0 < length line) × DoesLine (Some ends.NoMemory) line count old new held now
DoesLast (Some (ends.ReadFault f)) line count old new held now = ⊥

-- ---- faults

-- of a sink only `WriteFault` is a fault
abbrev pub BlamesSink : End → ℕ → ℕ → ℕ → ℕ → Type 0
BlamesSink (ends.WriteFault f) faults faults_now lulls lulls_now = CausedBy f faults faults_now lulls lulls_now
BlamesSink ends.Done faults faults_now lulls lulls_now = NoFault faults faults_now lulls lulls_now
BlamesSink (ends.Refused r) faults faults_now lulls lulls_now = NoFault faults faults_now lulls lulls_now
BlamesSink (ends.ReadFault f) faults faults_now lulls lulls_now = NoFault faults faults_now lulls lulls_now
BlamesSink ends.NoMemory faults faults_now lulls lulls_now = NoFault faults faults_now lulls lulls_now

abbrev pub Blames : Option End → ℕ → ℕ → ℕ → ℕ → Type 0
Blames None faults faults_now lulls lulls_now = NoFault faults faults_now lulls lulls_now
Blames (Some end) faults faults_now lulls lulls_now = BlamesSink end faults faults_now lulls lulls_now

-- of a source only `ReadFault` is one
abbrev pub BlamesSourceEnd : End → ℕ → ℕ → ℕ → ℕ → Type 0
BlamesSourceEnd (ends.ReadFault f) faults faults_now lulls lulls_now = CausedBy f faults faults_now lulls lulls_now
BlamesSourceEnd ends.Done faults faults_now lulls lulls_now = NoFault faults faults_now lulls lulls_now
BlamesSourceEnd (ends.Refused r) faults faults_now lulls lulls_now = NoFault faults faults_now lulls lulls_now
BlamesSourceEnd (ends.WriteFault f) faults faults_now lulls lulls_now = NoFault faults faults_now lulls lulls_now
BlamesSourceEnd ends.NoMemory faults faults_now lulls lulls_now = NoFault faults faults_now lulls lulls_now

abbrev pub BlamesSource : Option End → ℕ → ℕ → ℕ → ℕ → Type 0
BlamesSource None faults faults_now lulls lulls_now = NoFault faults faults_now lulls lulls_now
BlamesSource (Some end) faults faults_now lulls lulls_now = BlamesSourceEnd end faults faults_now lulls lulls_now

-- what a replay read and wrote, by how it ended
abbrev pub Replays : End → Option (List ℕ) → Option (List ℕ) → Option (List ℕ) → Option (List ℕ) → Type 0
Replays ends.Done before after held now = IsDone before after held now
Replays (ends.Refused r) before after held now = IsRefusalOf r before after held now
Replays (ends.ReadFault f) before after held now = IsBroken before after held now
Replays (ends.WriteFault f) before after held now = IsCut 6 before after held now
Replays ends.NoMemory before after held now = IsCut 7 before after held now
