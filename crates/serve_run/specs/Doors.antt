-- What was asked of the ports and of the spawner, and their counts.
use Rattle.std.specs.Prelude.{◌≡◌, ℕ, Result, Ok, Err}
use Rattle.push_outside.specs.Counts.{Rose}
use Rattle.serve_run.specs.declared.halt.Halt.{Halt}
use Rattle.serve_run.specs.declared.halt.Halt.TheVariants.{Port, Loop, NoMemory}

-- it is a port's fault only where the ports' count rose
abbrev pub PortFailed : Halt → ℕ → ℕ → Type 0
PortFailed Port before after = Rose before after
PortFailed Loop before after = ⊥
PortFailed NoMemory before after = Unit {0}

-- a listen that gave all leaves the ports' count
abbrev pub Listened : {A : Type 0} → Result A Halt → ℕ → ℕ → Type 0
Listened (Ok a) before after = after ≡ before
Listened (Err halt) before after = PortFailed halt before after

-- it is a loop's fault only where the spawner's count rose
abbrev pub LoopFailed : Halt → ℕ → ℕ → Type 0
LoopFailed Port before after = ⊥
LoopFailed Loop before after = Rose before after
LoopFailed NoMemory before after = Unit {0}

-- a start of all leaves the spawner's count
abbrev pub Started : {A : Type 0} → Result A Halt → ℕ → ℕ → Type 0
Started (Ok a) before after = after ≡ before
Started (Err halt) before after = LoopFailed halt before after
