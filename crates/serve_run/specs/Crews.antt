-- The loops that run, each with passes of its own.
use Rattle.std.specs.Prelude.{◌≡◌, ◌<◌, ◌+◌, ℕ, List, [], ◌∷◌, ◌++◌, length, Result, Ok, Err}
use Rattle.push_outside.specs.Counts.{next_count}
use Rattle.node_loops.specs.Together.{raised}
use Rattle.push_model.specs.DeskViews.{DeskView}
use Rattle.push_exchange.specs.PassViews.{PassView}
use Rattle.push_exchange.specs.Boards.{IsBeside, passes_view}
use Rattle.serve_run.specs.declared.halt.Halt.{Halt}

-- a job runs that has passes of the boards of the view
abbrev pub RunsBeside : {T : Type 0} → (T → List PassView) → DeskView → T → Type 0
RunsBeside job v t = IsBeside v (passes_view (job t))

-- so does each
abbrev pub EachBeside : {T : Type 0} → (T → List PassView) → DeskView → List T → Type 0
EachBeside job v [] = Unit {0}
EachBeside job v (t ∷ ts) = RunsBeside job v t × EachBeside job v ts

-- what runs now: the job that was started, behind those before, or no other
abbrev pub Launched : {T J : Type 0} → (T → J) → Result (Unit {0}) Halt → J → List T → List T → Type 0
Launched {T} runs (Ok u) job old new = (one : T) × (runs one ≡ job) × (new ≡ old ++ one ∷ [])
Launched runs (Err halt) job old new = new ≡ old

-- the count of the jobs that were started
abbrev pub started_after : {A : Type 0} → Result A Halt → ℕ → ℕ
started_after (Ok a) count = next_count count
started_after (Err halt) count = count

-- the same boards, each with a shard that began in the same world
pub record IsOpenedAlike (v w : DeskView) : Type 0 where
  pub size : w.size ≡ v.size
  pub board : IsBeside v w
  pub opened : (k : ℕ) → w.opened k ≡ v.opened k

-- So many more jobs run, each beside the passes that they were split from. These are of the same boards still.
pub record Staffed {T : Type 0} (job : T → List PassView) (n : ℕ) (v w : DeskView) (old new : List T) (before after : ℕ) : Type 0 where
  pub count : length new ≡ length old + n
  pub started : after ≡ raised n before
  pub beside : EachBeside job w new
  pub opening : IsOpenedAlike v w

-- all of n jobs were started, or so many of them as were before one was refused
abbrev pub StaffedBy : {T : Type 0} → Result (Unit {0}) Halt → (T → List PassView) → ℕ → DeskView → DeskView → List T → List T → ℕ → ℕ → Type 0
StaffedBy (Ok u) job n v w old new before after = Staffed job n v w old new before after
StaffedBy (Err halt) job n v w old new before after = (m : ℕ) × (m < n) × Staffed job m v w old new before after
