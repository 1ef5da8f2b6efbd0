-- What a command read, wrote and blames, by how it ended.
use Rattle.std.specs.Prelude.{◌≡◌, ℕ, List, [], ◌∷◌, codes, Option}
use Rattle.std.specs.Io.KnownBytes.{Keeps}
use Rattle.autopush_main.specs.Known.{NoFault}
use Rattle.autopush_main.specs.Turns.{Replays, BlamesSourceEnd, BlamesSink}
use Rattle.autopush_main.specs.declared.endings.Ended.{Ended}
use Rattle.autopush_main.specs.declared.endings.Ended.TheVariants.{WrongWords, NoWords, Replayed}
use Rattle.autopush_main.specs.declared.endings.WordsFault.{WordsFault}
use Rattle.autopush_main.specs.declared.endings.WordsFault.TheVariants.{NotText, NoMemory}

-- the one command there is
abbrev pub command : List (List ℕ)
command = codes "replay" ∷ []

-- by the words
abbrev pub OfWords : Ended → List (List ℕ) → Type 0
OfWords WrongWords words = ¬ (words ≡ command)
OfWords NoWords words = ⊥
OfWords (Replayed end) words = words ≡ command

-- where there are none
abbrev pub ended_without : WordsFault → Ended
ended_without NotText = WrongWords
ended_without NoMemory = NoWords

-- what was read and written
abbrev pub Ends : Ended → Option (List ℕ) → Option (List ℕ) → Option (List ℕ) → Option (List ℕ) → Type 0
Ends WrongWords before after held now = Keeps before after × Keeps held now
Ends NoWords before after held now = Keeps before after × Keeps held now
Ends (Replayed end) before after held now = Replays end before after held now

-- nothing was called of the source or of the sink
abbrev pub NotBegun : Ended → Type 0
NotBegun WrongWords = Unit {0}
NotBegun NoWords = Unit {0}
NotBegun (Replayed end) = ⊥

-- ---- faults: of the source only `ReadFault` is one, of the sink only `WriteFault`

abbrev pub BlamesInput : Ended → ℕ → ℕ → ℕ → ℕ → Type 0
BlamesInput WrongWords faults faults_now lulls lulls_now = NoFault faults faults_now lulls lulls_now
BlamesInput NoWords faults faults_now lulls lulls_now = NoFault faults faults_now lulls lulls_now
BlamesInput (Replayed end) faults faults_now lulls lulls_now = BlamesSourceEnd end faults faults_now lulls lulls_now

abbrev pub BlamesOutput : Ended → ℕ → ℕ → ℕ → ℕ → Type 0
BlamesOutput WrongWords faults faults_now lulls lulls_now = NoFault faults faults_now lulls lulls_now
BlamesOutput NoWords faults faults_now lulls lulls_now = NoFault faults faults_now lulls lulls_now
BlamesOutput (Replayed end) faults faults_now lulls lulls_now = BlamesSink end faults faults_now lulls lulls_now
