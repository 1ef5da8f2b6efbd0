-- What a step that is none of its own leaves of a flight.
use Rattle.std.specs.Prelude.{◌≡◌, ◌≢◌, ◌⊎◌, ℕ, Bool, true, false, List, [], ◌∷◌, Option, Some, None}
use Rattle.push_model.specs.declared.ids.Op.{Op}
use Rattle.push_model.specs.declared.entry.Entry.{Entry}
use Rattle.push_model.specs.declared.parts.FlightRow.{FlightRow}
use Rattle.push_model.specs.declared.step.Actor.{Actor}
use Rattle.push_model.specs.declared.step.Actor.TheVariants.{Flight as OfFlight, Saver as OfSaver}
use Rattle.push_model.specs.declared.step.Stage.{Stage}
use Rattle.push_model.specs.declared.step.Stage.TheVariants.{Direct as AtDirect, Told, Nudge as AtNudge, ToldNudge as AtToldNudge}
use Rattle.push_model.specs.declared.step.Step.{Step}
use Rattle.push_model.specs.declared.step.Step.TheVariants.{Begin, Direct, Store, GiveUp, Reread, Nudge, Heard, Lost, Clear}
use Rattle.push_model.specs.Names.{is_same_op}
use Rattle.push_model.specs.Cells.{Cell}
use Rattle.push_model.specs.FlightSteps.{flight}
use Rattle.push_model.specs.Worlds.{World}

-- ---- the flight of that name

abbrev pub first_of : Option FlightRow → Option FlightRow → Option FlightRow
first_of None g = g
first_of (Some f) g = Some f

abbrev pub flight_among : Op → List (ℕ × Cell) → Option FlightRow
flight_among o [] = None
flight_among o (e ∷ es) = first_of (flight o e.1) (flight_among o es)

-- wherever it is
abbrev pub flight_at : Op → World → Option FlightRow
flight_at o w = flight_among o w.cells

-- ---- stages

-- its message was given to the session, or not
abbrev pub Given : Stage → Stage → Type 0
Given (AtDirect n a) t = (b : Bool) × (t ≡ Told b)
Given _ t = ⊥

-- the session that it names was told, or not
abbrev pub Nudged : Stage → Stage → Type 0
Nudged (AtNudge n a) t = (b : Bool) × (t ≡ AtToldNudge b n a)
Nudged _ t = ⊥

-- what one step of another pass may do to the stage of o
abbrev pub TurnedBy : Op → Step → Stage → Stage → Type 0
TurnedBy o (Direct k) s t = (is_same_op k o ≡ true) × Given s t
TurnedBy o (Nudge (OfFlight k)) s t = (is_same_op k o ≡ true) × Nudged s t
TurnedBy o _ s t = ⊥

-- and what any number of them may
abbrev pub Turned : Stage → Stage → Type 0
Turned s t = Given s t ⊎ Nudged s t

-- ---- steps

abbrev pub is_of_actor : Op → Actor → Bool
is_of_actor o (OfFlight k) = is_same_op k o
is_of_actor o (OfSaver s) = false

-- the steps of the flight o that its own pass alone makes
abbrev pub is_own : Op → Step → Bool
is_own o (Begin k t a) = is_same_op k o
is_own o (Store k) = is_same_op k o
is_own o (GiveUp k) = is_same_op k o
is_own o (Reread actor) = is_of_actor o actor
is_own o (Heard actor) = is_of_actor o actor
is_own o (Lost actor) = is_of_actor o actor
is_own o (Clear actor) = is_of_actor o actor
is_own o _ = false

-- the step that makes the flight o
abbrev pub is_begin_of : Op → Step → Bool
is_begin_of o (Begin k t a) = is_same_op k o
is_begin_of o _ = false

-- ---- flights

-- all but the stage is as it was, and the stage is as it was or has turned
pub record SameFlight (T : Stage → Stage → Type 0) (f g : FlightRow) : Type 0 where
  pub op : g.op ≡ f.op
  pub message : g.message ≡ f.message
  pub token : g.token ≡ f.token
  pub stage : (g.stage ≡ f.stage) ⊎ T f.stage g.stage

-- a flight that isn't there comes by no such step, and one that is there stays
abbrev pub IsLeft : (Stage → Stage → Type 0) → Option FlightRow → Option FlightRow → Type 0
IsLeft T None None = Unit {0}
IsLeft T None (Some g) = ⊥
IsLeft T (Some f) None = ⊥
IsLeft T (Some f) (Some g) = SameFlight T f g

-- no entry is signed by that number
abbrev pub NoneBy : {S R : Type 0} → ℕ → List (Entry S R) → Type 0
NoneBy p [] = Unit {0}
NoneBy p (e ∷ es) = (e.by ≢ p) × NoneBy p es

-- no entry is such a step of the flight o
abbrev pub NoneOf : {R : Type 0} → Op → List (Entry Step R) → Type 0
NoneOf o [] = Unit {0}
NoneOf o (e ∷ es) = (is_own o e.step ≡ false) × NoneOf o es

-- no entry makes the flight o
abbrev pub NoBegin : {R : Type 0} → Op → List (Entry Step R) → Type 0
NoBegin o [] = Unit {0}
NoBegin o (e ∷ es) = (is_begin_of o e.step ≡ false) × NoBegin o es
