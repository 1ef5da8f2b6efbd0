-- Why a line is refused.
use Rattle.std.specs.Prelude.{◌≡◌, ℕ, ◌+◌, ◌≤◌, ◌<◌, List, ◌∷◌, ◌++◌, length, map, Option, IfSome}
use Rattle.push_model.specs.declared.step.Step.{Step}
use Rattle.schedule_text.specs.Spelling.{spell}
use Rattle.schedule_text.specs.Wrongs.{Means}
use Rattle.autopush_main.specs.Lines.{line_limit}
use Rattle.autopush_main.specs.Replay.{IsRefused, IsRefusal, lines_of, limit}
use Rattle.autopush_main.specs.declared.endings.Cause.{Cause}
use Rattle.autopush_main.specs.declared.endings.Cause.TheVariants.{TooMany, TooLong, NoStep}
use Rattle.autopush_main.specs.declared.endings.Refusal.{Refusal}

-- why this line, which stands behind so many others, is refused: the first that holds
abbrev pub IsWhy : Cause → List ℕ → ℕ → Type 0
IsWhy TooMany line count = count ≡ limit
IsWhy TooLong line count = (count < limit) × (line_limit < length line)
IsWhy (NoStep wrong) line count = (count < limit) × (length line ≤ line_limit) × IsRefused line × Means wrong line

-- the line behind those of the steps is refused for that
abbrev pub IsWhyBehind : Cause → Option (List ℕ) → List Step → Type 0
IsWhyBehind cause before steps = IfSome before (λ all. (line : List ℕ) × (more : List (List ℕ)) × (lines_of all ≡ map spell steps ++ line ∷ more) × IsWhy cause line (length steps))

-- the lines before the first refused one were answered, and that was this one, for this cause
pub record IsRefusalOf (refusal : Refusal) (before after held now : Option (List ℕ)) : Type 0 where
  pub answered : IsRefusal before after held now
  pub number : refusal.line ≡ length answered.steps + 1
  pub cause : IsWhyBehind refusal.cause before answered.steps
