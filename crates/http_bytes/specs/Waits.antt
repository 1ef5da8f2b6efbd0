-- How waiting for a form ends.
use Rattle.std.specs.Prelude.{◌≡◌, ℕ, ◌≤◌, ◌<◌, List, Option, Some, None, Result, Ok, Err, ⊤}
use Rattle.push_outside.specs.Counts.{Rose}
use Rattle.http_bytes.specs.Moves.{Moves, MovesAll}
use Rattle.http_bytes.specs.declared.rest.Filled.{Filled}
use Rattle.http_bytes.specs.declared.rest.Filled.TheVariants as filled
use Rattle.http_bytes.specs.declared.wait.Look.{Look}
use Rattle.http_bytes.specs.declared.wait.Look.TheVariants.{Whole, Part, Bad}
use Rattle.http_bytes.specs.declared.wait.Stop.{Stop}
use Rattle.http_bytes.specs.declared.wait.Stop.TheVariants as stop

-- the most bytes that are kept
abbrev pub most_kept : ℕ
most_kept = 65536

-- what a look says
abbrev pub Looks : {A : Type 0} → Look A → (A → Type 0) → Type 0 → Type 0 → Type 0
Looks (Whole a) Found Open Never = Found a
Looks Part Found Open Never = Open
Looks Bad Found Open Never = Never

-- what was read, by how the wait ended: at the end of the input, all that was left
abbrev pub Waits : {A : Type 0} → Result A Stop → Option (List ℕ) → Option (List ℕ) → List ℕ → List ℕ → Type 0
Waits (Ok a) before after old new = Moves before after old new
Waits (Err stop.End) before after old new = MovesAll before after old new
Waits (Err stop.Full) before after old new = Moves before after old new
Waits (Err stop.Bad) before after old new = Moves before after old new
Waits (Err stop.Idle) before after old new = Moves before after old new
Waits (Err stop.Failed) before after old new = Moves before after old new
Waits (Err stop.NoMemory) before after old new = Moves before after old new

-- what the bytes are then, of which there are so many
abbrev pub EndsSo : {A : Type 0} → Result A Stop → (A → Type 0) → Type 0 → Type 0 → ℕ → Type 0
EndsSo (Ok a) Found Open Never size = Found a
EndsSo (Err stop.End) Found Open Never size = Open × (size < most_kept)
EndsSo (Err stop.Full) Found Open Never size = Open × (size ≡ most_kept)
EndsSo (Err stop.Bad) Found Open Never size = Never
EndsSo (Err stop.Idle) Found Open Never size = Open × (size < most_kept)
EndsSo (Err stop.Failed) Found Open Never size = Open × (size < most_kept)
EndsSo (Err stop.NoMemory) Found Open Never size = Open × (size < most_kept)

-- the cause of the end, by the wire's counts
abbrev pub StoppedBy : {A : Type 0} → Result A Stop → ℕ → ℕ → ℕ → Type 0
StoppedBy (Ok a) before now lulls = before ≤ now
StoppedBy (Err stop.End) before now lulls = before ≤ now
StoppedBy (Err stop.Full) before now lulls = before ≤ now
StoppedBy (Err stop.Bad) before now lulls = before ≤ now
StoppedBy (Err stop.Idle) before now lulls = (before ≤ now) × (1000 ≤ lulls)
StoppedBy (Err stop.Failed) before now lulls = (before ≤ now) × Rose before now
StoppedBy (Err stop.NoMemory) before now lulls = before ≤ now

-- a read after which more may come
abbrev pub GoesOn : Filled → Type 0
GoesOn filled.More = ⊤
GoesOn filled.NotYet = ⊤
GoesOn filled.End = ⊥
GoesOn filled.Failed = ⊥
GoesOn filled.NoMemory = ⊥

-- how a wait ends after that read, or goes on
abbrev pub SettlesSo : {A : Type 0} → Option (Result A Stop) → Filled → ℕ → (A → Type 0) → Type 0 → Type 0 → ℕ → Type 0
SettlesSo None read lulls Found Open Never size = GoesOn read × (lulls < 1000) × (size < most_kept)
SettlesSo (Some (Ok a)) read lulls Found Open Never size = Found a
SettlesSo (Some (Err stop.End)) read lulls Found Open Never size = Open × (size < most_kept) × (read ≡ filled.End)
SettlesSo (Some (Err stop.Full)) read lulls Found Open Never size = Open × (size ≡ most_kept)
SettlesSo (Some (Err stop.Bad)) read lulls Found Open Never size = Never
SettlesSo (Some (Err stop.Idle)) read lulls Found Open Never size = Open × (size < most_kept) × (1000 ≤ lulls)
SettlesSo (Some (Err stop.Failed)) read lulls Found Open Never size = Open × (size < most_kept) × (read ≡ filled.Failed)
SettlesSo (Some (Err stop.NoMemory)) read lulls Found Open Never size = Open × (size < most_kept) × (read ≡ filled.NoMemory)
