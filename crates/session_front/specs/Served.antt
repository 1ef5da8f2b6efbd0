-- A run of pumps.
use Rattle.std.specs.Prelude.{◌≡◌, ◌<◌, ℕ, List, [], ◌∷◌, length, Option, Some, None}
use Rattle.session_drive.specs.Runs.{Sides}
use Rattle.session_drive.specs.declared.ends.SessionEnd.{SessionEnd}
use Rattle.session_front.specs.Pumps.{PumpMade}
use Rattle.session_front.specs.declared.live.Live.{Live}
use Rattle.session_front.specs.declared.live.Place.{Place}
use Rattle.session_front.specs.declared.live.Pumped.{Pumped}
use Rattle.session_front.specs.declared.live.Pumped.TheVariants.{Moved, Idle, Done}
use Rattle.session_front.specs.declared.live.SessionServed.{SessionServed}
use Rattle.session_front.specs.declared.live.SessionServed.TheVariants.{Done as IsDone, Paused}

-- what stands between two pumps
pub record Pause : Type 0 where
  pub live : Live
  pub sides : Sides
  pub given : Option (List ℕ)
  pub faults : ℕ

abbrev pub pause : Live → Sides → Option (List ℕ) → ℕ → Pause
pause live sides given faults = record { live = live; sides = sides; given = given; faults = faults }

abbrev pub ended : Pumped → Option SessionEnd
ended (Done e) = Some e
ended result = None

abbrev pub Pumps : Place → Option ℕ → Pumped → Pause → Pause → Type 0
Pumps place moment result x y = PumpMade place x.live y.live moment result x.sides y.sides x.given y.given x.faults y.faults

-- one pump leads to each of these, and none was the end
abbrev pub RunsOver : Place → Option ℕ → Pause → List Pause → Pause → Type 0
RunsOver place moment x [] y = y ≡ x
RunsOver place moment x (z ∷ zs) y = ((result : Pumped) × (ended result ≡ None) × Pumps place moment result x z) × RunsOver place moment z zs y

-- so many pumps were made; or fewer, and then one that is the end
abbrev pub ServedBy : Place → Option ℕ → ℕ → SessionServed → Pause → Pause → Type 0
ServedBy place moment turns Paused x y = (zs : List Pause) × (length zs ≡ turns) × RunsOver place moment x zs y
ServedBy place moment turns (IsDone e) x y = (zs : List Pause) × (length zs < turns) × ((last : Pause) × RunsOver place moment x zs last × Pumps place moment (Done e) last y)
