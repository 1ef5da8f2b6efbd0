-- What the command read, wrote, asked for and blames, by how it ended.
use Rattle.std.specs.Prelude.{◌≡◌, ℕ, List, [], ◌∷◌, codes, Option, ⊤}
use Rattle.std.specs.Io.KnownBytes.{Keeps}
use Rattle.autopush_main.specs.Known.{NoFault}
use Rattle.serve_words.specs.Plans.{IsPlan, PlanValue, serve_words}
use Rattle.serve_run.specs.Serves.{BlamesInput as ServeBlamesInput, BlamesOutput as ServeBlamesOutput, BlamesPorts as ServeBlamesPorts, BlamesSpawner as ServeBlamesSpawner, LoopsRun, PortsGiven, Serves, loops_of}
use Rattle.serve_run.specs.declared.ends.ServeEnd.{ServeEnd}
use Rattle.autopush_serve.specs.declared.ended.Ended.{Ended}
use Rattle.autopush_serve.specs.declared.ended.Ended.TheVariants.{WrongWords, NoSeed, Served}

-- the first word is `serve`
abbrev pub BeginsServe : List (List ℕ) → Type 0
BeginsServe [] = ⊥
BeginsServe (word ∷ words) = word ≡ codes "serve"

-- the words spell that plan
abbrev pub Spells : List (List ℕ) → PlanValue → Type 0
Spells words p = IsPlan p × (words ≡ serve_words p)

-- No port was listened at, and no loop was started or joined.
abbrev pub NothingBegun : ℕ → ℕ → ℕ → ℕ → ℕ → ℕ → Type 0
NothingBegun given given_now started started_now joined joined_now = (given_now ≡ given) × (started_now ≡ started) × (joined_now ≡ joined)

-- The ports and the loops are those of the plan that the words spell.
pub record IsPlanned (words : List (List ℕ)) (end : ServeEnd) (given given_now started started_now joined joined_now : ℕ) : Type 0 where
  pub plan : PlanValue
  pub spelled : Spells words plan
  pub ports : PortsGiven end plan given given_now
  pub loops : LoopsRun end (loops_of plan) started started_now joined joined_now

-- by the words, and by how many listeners were given, and how many loops were started and joined, before and after
abbrev pub OfWords : Ended → List (List ℕ) → ℕ → ℕ → ℕ → ℕ → ℕ → ℕ → Type 0
OfWords WrongWords words given given_now started started_now joined joined_now = ((p : PlanValue) → Spells words p → ⊥) × NothingBegun given given_now started started_now joined joined_now
OfWords NoSeed words given given_now started started_now joined joined_now = ((p : PlanValue) × Spells words p) × NothingBegun given given_now started started_now joined joined_now
OfWords (Served end) words given given_now started started_now joined joined_now = IsPlanned words end given given_now started started_now joined joined_now

-- the same, for some such counts
abbrev pub IsOfWords : Ended → List (List ℕ) → Type 0
IsOfWords ended words = (given : ℕ) × (given_now : ℕ) × (started : ℕ) × (started_now : ℕ) × (joined : ℕ) × (joined_now : ℕ) × OfWords ended words given given_now started started_now joined joined_now

-- by whether there was a seed
abbrev pub OfSeed : {A : Type 0} → Ended → Option A → Type 0
OfSeed WrongWords seed = ⊤
OfSeed NoSeed seed = seed ≡ Option.None
OfSeed (Served end) seed = ¬ (seed ≡ Option.None)

-- what was read and written
abbrev pub Ends : Ended → Option (List ℕ) → Option (List ℕ) → Option (List ℕ) → Option (List ℕ) → Type 0
Ends WrongWords before after held now = Keeps before after × Keeps held now
Ends NoSeed before after held now = Keeps before after × Keeps held now
Ends (Served end) before after held now = Serves end before after held now

-- ---- faults: each comes only by its own count

abbrev pub BlamesInput : Ended → ℕ → ℕ → ℕ → ℕ → Type 0
BlamesInput (Served end) faults faults_now lulls lulls_now = ServeBlamesInput end faults faults_now lulls lulls_now
BlamesInput ended faults faults_now lulls lulls_now = NoFault faults faults_now lulls lulls_now

abbrev pub BlamesOutput : Ended → ℕ → ℕ → ℕ → ℕ → Type 0
BlamesOutput (Served end) faults faults_now lulls lulls_now = ServeBlamesOutput end faults faults_now lulls lulls_now
BlamesOutput ended faults faults_now lulls lulls_now = NoFault faults faults_now lulls lulls_now

abbrev pub BlamesPorts : Ended → ℕ → ℕ → Type 0
BlamesPorts (Served end) before after = ServeBlamesPorts end before after
BlamesPorts ended before after = ⊤

abbrev pub BlamesSpawner : Ended → ℕ → ℕ → Type 0
BlamesSpawner (Served end) before after = ServeBlamesSpawner end before after
BlamesSpawner ended before after = ⊤
