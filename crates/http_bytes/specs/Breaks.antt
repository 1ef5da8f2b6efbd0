-- At which bytes reading breaks off.
use Rattle.std.specs.Prelude.{◌≡◌, ℕ, ◌<◌, ◌⊎◌, List, ◌++◌, length, Option, ⊤}
use Rattle.http_bytes.specs.Moves.{Moves, MovesAll}
use Rattle.http_bytes.specs.Waits.{most_kept}
use Rattle.http_bytes.specs.declared.fault.WireFault.{WireFault}
use Rattle.http_bytes.specs.declared.fault.WireFault.TheVariants.{Ended, BadHead, HeadTooLong, Truncated, Idle, ReadFault, WriteFault, NoMemory}
use Rattle.http_bytes.specs.declared.wait.Stop.{Stop}
use Rattle.http_bytes.specs.declared.wait.Stop.TheVariants as stop

-- the fault where a part of a body doesn't come
abbrev pub part_fault : Stop → WireFault
part_fault stop.End = Truncated
part_fault stop.Full = BadHead
part_fault stop.Bad = BadHead
part_fault stop.Idle = Idle
part_fault stop.Failed = ReadFault
part_fault stop.NoMemory = NoMemory

-- reading broke off at bytes of which P holds
pub record Stops (before after : Option (List ℕ)) (old : List ℕ) (P : List ℕ → Type 0) : Type 0 where
  pub seen : List ℕ
  pub moved : Moves before after old seen
  pub at : P seen

-- and they were all that came
pub record StopsAtEnd (before after : Option (List ℕ)) (old : List ℕ) (P : List ℕ → Type 0) : Type 0 where
  pub seen : List ℕ
  pub moved : MovesAll before after old seen
  pub at : P seen

-- by the fault: the bytes are open, or never become what was to be read
abbrev pub Breaks : WireFault → Option (List ℕ) → Option (List ℕ) → List ℕ → (List ℕ → Type 0) → (List ℕ → Type 0) → Type 0
Breaks Truncated before after old Open Never = StopsAtEnd before after old Open
Breaks BadHead before after old Open Never = Stops before after old Never
Breaks Idle before after old Open Never = Stops before after old Open
Breaks ReadFault before after old Open Never = Stops before after old Open
Breaks NoMemory before after old Open Never = ⊤
Breaks Ended before after old Open Never = ⊥
Breaks HeadTooLong before after old Open Never = ⊥
Breaks WriteFault before after old Open Never = ⊥

-- they are open, and there are fewer than 65,536
abbrev pub OpenWithin : (List ℕ → Type 0) → List ℕ → Type 0
OpenWithin Open seen = Open seen × (length seen < most_kept)

-- 65,536 of them are open
pub record IsFull (Open : List ℕ → Type 0) (seen : List ℕ) : Type 0 where
  pub front : List ℕ
  pub rest : List ℕ
  pub parts : seen ≡ front ++ rest
  pub size : length front ≡ most_kept
  pub open_front : Open front

-- it never comes, or not in 65,536 bytes
abbrev pub NeverOrFull : (List ℕ → Type 0) → (List ℕ → Type 0) → List ℕ → Type 0
NeverOrFull Open Never seen = Never seen ⊎ IsFull Open seen

-- behind that text P holds
abbrev pub Behind : List ℕ → (List ℕ → Type 0) → List ℕ → Type 0
Behind text P seen = (tail : List ℕ) × (seen ≡ text ++ tail) × P tail
