-- What was read and written by a service, and what it blames, by how it ended.
use Rattle.std.specs.Prelude.{◌≡◌, ◌⊎◌, ◌+◌, ◌≤◌, ℕ, List, Option, ⊤}
use Rattle.std.specs.Io.KnownBytes.{Appends}
use Rattle.push_model.specs.Worlds.{World}
use Rattle.push_model.specs.DeskViews.{DeskView}
use Rattle.push_outside.specs.Counts.{Rose}
use Rattle.autopush_main.specs.Known.{AppendsFront, CausedBy, NoFault}
use Rattle.node_control.specs.Controls.{IsBroken as IsBrokenControl, IsCut as IsCutControl, IsOver as IsOverControl}
use Rattle.node_loops.specs.Together.{raised}
use Rattle.serve_words.specs.Plans.{PlanValue}
use Rattle.serve_run.specs.Sums.{sums_text}
use Rattle.serve_run.specs.Worlds.{AreSound, IsEmpty}
use Rattle.serve_run.specs.declared.halt.Halt.TheVariants.{Port, Loop}
use Rattle.serve_run.specs.declared.ends.ServeEnd.{ServeEnd}
use Rattle.serve_run.specs.declared.ends.ServeEnd.TheVariants.{Done, Halted, ReadFault, WriteFault, NoMemory}

-- ---- by what was left of the input and written, before and after

-- Each line was answered, at sixteen shards that began empty, and then the lines of their sums were written: those of sixteen worlds,
-- each after a legal history in which each message is accounted for.
pub record IsDone (before after held now : Option (List ℕ)) : Type 0 where
  pub a : DeskView
  pub b : DeskView
  pub empty : IsEmpty a
  pub mid : Option (List ℕ)
  pub lines : IsOverControl before after held mid a b
  pub worlds : List World
  pub sound : AreSound worlds
  pub sums : Appends mid now (sums_text worlds)

-- each line that was whole before was answered
pub record IsBroken (before after held now : Option (List ℕ)) : Type 0 where
  pub a : DeskView
  pub b : DeskView
  pub empty : IsEmpty a
  pub lines : IsBrokenControl before after held now a b

-- the lines before were answered, and one more was cut off
pub record IsCut (before after held now : Option (List ℕ)) : Type 0 where
  pub a : DeskView
  pub b : DeskView
  pub empty : IsEmpty a
  pub lines : IsCutControl before after held now a b

-- each line was answered, and the lines of the sums were cut off
pub record IsCutLast (before after held now : Option (List ℕ)) : Type 0 where
  pub a : DeskView
  pub b : DeskView
  pub empty : IsEmpty a
  pub mid : Option (List ℕ)
  pub lines : IsOverControl before after held mid a b
  pub worlds : List World
  pub sound : AreSound worlds
  pub sums : AppendsFront mid now (sums_text worlds)

-- each line was answered, and nothing more was written
pub record IsUntold (before after held now : Option (List ℕ)) : Type 0 where
  pub a : DeskView
  pub b : DeskView
  pub empty : IsEmpty a
  pub lines : IsOverControl before after held now a b

abbrev pub Serves : ServeEnd → Option (List ℕ) → Option (List ℕ) → Option (List ℕ) → Option (List ℕ) → Type 0
Serves Done before after held now = IsDone before after held now
Serves (Halted halt) before after held now = (after ≡ before) × (now ≡ held)
Serves (ReadFault f) before after held now = IsBroken before after held now
Serves (WriteFault f) before after held now = IsCut before after held now ⊎ IsCutLast before after held now
Serves NoMemory before after held now = IsCut before after held now ⊎ (IsCutLast before after held now ⊎ IsUntold before after held now)

-- ---- faults: of the source only `ReadFault` is one, of the sink only `WriteFault`

abbrev pub BlamesInput : ServeEnd → ℕ → ℕ → ℕ → ℕ → Type 0
BlamesInput (ReadFault f) faults faults_now lulls lulls_now = CausedBy f faults faults_now lulls lulls_now
BlamesInput Done faults faults_now lulls lulls_now = NoFault faults faults_now lulls lulls_now
BlamesInput (Halted halt) faults faults_now lulls lulls_now = NoFault faults faults_now lulls lulls_now
BlamesInput (WriteFault f) faults faults_now lulls lulls_now = NoFault faults faults_now lulls lulls_now
BlamesInput NoMemory faults faults_now lulls lulls_now = NoFault faults faults_now lulls lulls_now

abbrev pub BlamesOutput : ServeEnd → ℕ → ℕ → ℕ → ℕ → Type 0
BlamesOutput (WriteFault f) faults faults_now lulls lulls_now = CausedBy f faults faults_now lulls lulls_now
BlamesOutput Done faults faults_now lulls lulls_now = NoFault faults faults_now lulls lulls_now
BlamesOutput (Halted halt) faults faults_now lulls lulls_now = NoFault faults faults_now lulls lulls_now
BlamesOutput (ReadFault f) faults faults_now lulls lulls_now = NoFault faults faults_now lulls lulls_now
BlamesOutput NoMemory faults faults_now lulls lulls_now = NoFault faults faults_now lulls lulls_now

-- a port is blamed only where the ports' count of faults rose
abbrev pub BlamesPorts : ServeEnd → ℕ → ℕ → Type 0
BlamesPorts (Halted Port) before after = Rose before after
BlamesPorts end before after = ⊤

-- a loop is blamed only where the spawner's count of faults rose
abbrev pub BlamesSpawner : ServeEnd → ℕ → ℕ → Type 0
BlamesSpawner (Halted Loop) before after = Rose before after
BlamesSpawner end before after = ⊤

-- ---- how many were asked for

-- one loop of each connection node, and two of each endpoint node
abbrev pub loops_of : PlanValue → ℕ
loops_of p = p.connections + (p.endpoints + p.endpoints)

-- where it was begun, the ports gave a listener for each port
abbrev pub PortsGiven : ServeEnd → PlanValue → ℕ → ℕ → Type 0
PortsGiven (Halted halt) p given given_now = ⊤
PortsGiven end p given given_now = given_now ≡ raised p.endpoints (raised p.connections given)

-- that many were started, and joined
abbrev pub StartedAndJoined : ℕ → ℕ → ℕ → ℕ → ℕ → Type 0
StartedAndJoined m started started_now joined joined_now = (started_now ≡ raised m started) × (joined_now ≡ raised m joined)

-- all n loops, or fewer where it didn't begin
abbrev pub LoopsRun : ServeEnd → ℕ → ℕ → ℕ → ℕ → ℕ → Type 0
LoopsRun (Halted halt) n started started_now joined joined_now = (m : ℕ) × (m ≤ n) × StartedAndJoined m started started_now joined joined_now
LoopsRun end n started started_now joined joined_now = StartedAndJoined n started started_now joined joined_now

-- no port is blamed
abbrev pub IsNoPort : ServeEnd → Type 0
IsNoPort (Halted Port) = ⊥
IsNoPort end = ⊤
