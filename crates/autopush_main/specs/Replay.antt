-- What a replay reads and writes.
use Rattle.std.specs.Prelude.{◌≡◌, ℕ, ◌+◌, ◌≤◌, ◌⊎◌, ◌==◌, List, [], ◌∷◌, ◌++◌, length, map, codes, decimal, Option, IfSome, if◌then◌else◌}
use Rattle.std.specs.List.{AllByRecursion}
use Rattle.std.specs.Io.KnownBytes.{Consumes, Appends}
use Rattle.push_model.specs.Worlds.{World, start}
use Rattle.push_model.specs.Steps.{step}
use Rattle.push_model.specs.Histories.{history}
use Rattle.push_model.specs.declared.step.Step.{Step}
use Rattle.push_model.specs.declared.step.Step.TheVariants.{Report}
use Rattle.push_laws.specs.Headline.{Headline}
use Rattle.schedule_text.specs.Spelling.{spell, InRange}
use Rattle.schedule_text.specs.Replies.{reply_line, SaysNoneWaits}
use Rattle.autopush_main.specs.Known.{AppendsFront}
use Rattle.autopush_main.specs.Lines.{NoLf}

-- ---- lines

abbrev pub onto_first : ℕ → List (List ℕ) → List (List ℕ)
onto_first b [] = (b ∷ []) ∷ []
onto_first b (line ∷ lines) = (b ∷ line) ∷ lines

-- the lines of a text; the last needs no LF
unfoldable pub lines_of : List ℕ → List (List ℕ)
lines_of [] = []
lines_of (b ∷ bytes) = if b == 10 then [] ∷ lines_of bytes else onto_first b (lines_of bytes)

-- a line that spells a step
pub record IsLine (line : List ℕ) (s : Step) : Type 0 where
  pub spelled : line ≡ spell s
  pub range : InRange s
  pub short : length line ≤ 16384

abbrev pub AreLines : List (List ℕ) → List Step → Type 0
AreLines [] [] = Unit {0}
AreLines [] (s ∷ steps) = ⊥
AreLines (line ∷ lines) [] = ⊥
AreLines (line ∷ lines) (s ∷ steps) = IsLine line s × AreLines lines steps

abbrev pub IsRefused : List ℕ → Type 0
IsRefused line = (s : Step) → IsLine line s → ⊥

-- a step whose spelling is a line
pub record IsTaken (s : Step) : Type 0 where
  pub range : InRange s
  pub short : length (spell s) ≤ 16384
  pub no_lf : NoLf (spell s)

-- the lines of the steps, each with its LF
abbrev pub ended : List Step → List ℕ
ended [] = []
ended (s ∷ steps) = spell s ++ 10 ∷ ended steps

-- ---- replies

-- the world in which a replay begins: shard 0, and 1 as the first message number
abbrev pub beginning : World
beginning = start 0 1

-- the lines of the replies to the steps
abbrev pub text : World → List Step → List ℕ
text w [] = []
text w (s ∷ steps) = reply_line (step w s).1 ++ text (step w s).0 steps

abbrev pub world_of : World → List Step → World
world_of w [] = w
world_of w (s ∷ steps) = world_of (step w s).0 steps

-- the line of a report ends with ` waiting 0`
abbrev pub SaysForReport : Step → List ℕ → Type 0
SaysForReport Report line = SaysNoneWaits line
SaysForReport _ line = Unit {0}

abbrev pub ReportsSay : World → List Step → Type 0
ReportsSay w [] = Unit {0}
ReportsSay w (s ∷ steps) = SaysForReport s (reply_line (step w s).1) × ReportsSay (step w s).0 steps

-- The history of these steps keeps the headline, and the line of each report says that none waits.
pub record KeepsHeadline (steps : List Step) : Type 0 where
  pub history : Headline beginning (history step 0 beginning steps)
  pub reports : ReportsSay beginning steps

abbrev pub refusal : ℕ → List ℕ
refusal n = codes "refused line " ++ (decimal n ++ 10 ∷ [])

-- ---- answers, by what was left and written before and after

abbrev pub limit : ℕ
limit = 1000000

-- all was read, and each line was answered
pub record IsDone (before after held now : Option (List ℕ)) : Type 0 where
  pub read : List ℕ
  pub steps : List Step
  pub input : Consumes before after read
  pub ended : IfSome before (λ all. all ≡ read)
  pub lines : AreLines (lines_of read) steps
  pub count : length steps ≤ limit
  pub output : Appends held now (text beginning steps)
  pub headline : KeepsHeadline steps

-- the line behind those of the steps is refused, or is one too many
abbrev pub IsRefusedBehind : Option (List ℕ) → List Step → Type 0
IsRefusedBehind before steps = IfSome before (λ all. (line : List ℕ) × (more : List (List ℕ)) × (lines_of all ≡ map spell steps ++ line ∷ more) × (IsRefused line ⊎ (length steps ≡ limit)))

-- the lines before the first refused one were answered, and it was named
pub record IsRefusal (before after held now : Option (List ℕ)) : Type 0 where
  pub steps : List Step
  pub taken : AllByRecursion IsTaken steps
  pub count : length steps ≤ limit
  pub behind : List ℕ
  pub input : Consumes before after (ended steps ++ behind)
  pub refused : IsRefusedBehind before steps
  pub output : Appends held now (text beginning steps ++ refusal (length steps + 1))
  pub headline : KeepsHeadline steps

-- reading broke off, and each line that was whole before was answered
pub record IsBroken (before after held now : Option (List ℕ)) : Type 0 where
  pub steps : List Step
  pub taken : AllByRecursion IsTaken steps
  pub count : length steps ≤ limit
  pub partial : List ℕ
  pub input : Consumes before after (ended steps ++ partial)
  pub no_lf : NoLf partial
  pub output : Appends held now (text beginning steps)
  pub headline : KeepsHeadline steps

-- ---- where writing broke off, or memory ran out

-- nothing, where memory ran out
abbrev pub CutsNothing : ℕ → List ℕ → List Step → List Step → Type 0
CutsNothing status piece earlier steps = (status ≡ 7) × (steps ≡ earlier) × (piece ≡ [])

-- these bytes begin with the step's line and its LF
abbrev pub IsWholeLine : List ℕ → Step → Type 0
IsWholeLine behind s = (more : List ℕ) × (behind ≡ spell s ++ 10 ∷ more)

-- these bytes, behind the earlier lines, are the step's line, which is the last of the input and has no LF
abbrev pub IsLastLine : List ℕ → Step → List Step → Option (List ℕ) → Type 0
IsLastLine behind s earlier before = (behind ≡ spell s) × IfSome before (λ all. all ≡ ended earlier ++ behind)

-- the reply to the last step, whose line stands behind those of the earlier ones
pub record CutsReply (piece : List ℕ) (earlier steps : List Step) (behind : List ℕ) (before : Option (List ℕ)) : Type 0 where
  pub last : Step
  pub is_last : steps ≡ earlier ++ last ∷ []
  pub line : IsWholeLine behind last ⊎ IsLastLine behind last earlier before
  pub reply : piece ≡ reply_line (step (world_of beginning earlier) last).1

-- the refusal of the line behind the steps
abbrev pub CutsRefusal : List ℕ → List Step → List Step → Option (List ℕ) → Type 0
CutsRefusal piece earlier steps before = (steps ≡ earlier) × (piece ≡ refusal (length steps + 1)) × IsRefusedBehind before steps

-- the replies to the earlier steps were written whole, and a front of one piece more: of nothing, of the reply to one step more, or of a refusal
pub record IsCut (status : ℕ) (before after held now : Option (List ℕ)) : Type 0 where
  pub earlier : List Step
  pub steps : List Step
  pub taken : AllByRecursion IsTaken steps
  pub count : length steps ≤ limit
  pub behind : List ℕ
  pub input : Consumes before after (ended earlier ++ behind)
  pub piece : List ℕ
  pub whose : CutsNothing status piece earlier steps ⊎ CutsReply piece earlier steps behind before ⊎ CutsRefusal piece earlier steps before
  pub mid : Option (List ℕ)
  pub whole : Appends held mid (text beginning earlier)
  pub cut : AppendsFront mid now piece
  pub headline : KeepsHeadline steps
