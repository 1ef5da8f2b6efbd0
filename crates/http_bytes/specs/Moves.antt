-- What reads do to what a wire has left and to the bytes that are kept.
use Rattle.std.specs.Prelude.{◌≡◌, ℕ, ◌≤◌, ◌<◌, List, ◌++◌, length, Option, IfSome, ⊤}
use Rattle.std.specs.Io.KnownBytes.{Consumes, Keeps, IsAtEnd}
use Rattle.push_outside.specs.Counts.{Rose, next_count}
use Rattle.http_bytes.specs.declared.rest.Filled.{Filled}
use Rattle.http_bytes.specs.declared.rest.Filled.TheVariants.{More, End, NotYet, Failed, NoMemory}

-- what was read stands behind what was kept
pub record Moves (before after : Option (List ℕ)) (old new : List ℕ) : Type 0 where
  pub read : List ℕ
  pub input : Consumes before after read
  pub joined : new ≡ old ++ read

-- and it was all that was left
pub record MovesAll (before after : Option (List ℕ)) (old new : List ℕ) : Type 0 where
  pub read : List ℕ
  pub input : Consumes before after read
  pub joined : new ≡ old ++ read
  pub whole : IfSome before (λ all. all ≡ read)

-- what was kept and what was read is that text, and then what is kept now
pub record Takes (before after : Option (List ℕ)) (old new text : List ℕ) : Type 0 where
  pub read : List ℕ
  pub input : Consumes before after read
  pub joined : old ++ read ≡ text ++ new

-- ---- one read

-- what it does
abbrev pub Fills : Filled → Option (List ℕ) → Option (List ℕ) → List ℕ → List ℕ → Type 0
Fills More before after old new = Moves before after old new × (length old < length new)
Fills End before after old new = Keeps before after × IsAtEnd before × (new ≡ old)
Fills NotYet before after old new = Keeps before after × (new ≡ old)
Fills Failed before after old new = Keeps before after × (new ≡ old)
Fills NoMemory before after old new = Keeps before after × (new ≡ old)

-- the count of faults rose at a failure, and else stays
abbrev pub FilledBy : Filled → ℕ → ℕ → Type 0
FilledBy More before now = now ≡ before
FilledBy End before now = now ≡ before
FilledBy NotYet before now = now ≡ before
FilledBy Failed before now = (before ≤ now) × Rose before now
FilledBy NoMemory before now = now ≡ before

-- a read that had nothing is one lull more
abbrev pub LullsSo : Filled → ℕ → ℕ → Type 0
LullsSo NotYet before now = now ≡ next_count before
LullsSo More before now = ⊤
LullsSo End before now = ⊤
LullsSo Failed before now = ⊤
LullsSo NoMemory before now = ⊤
