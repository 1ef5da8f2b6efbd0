-- A flight or a saver that tells a session, by the cell in which that is told.
use Rattle.std.proofs.Common.{◌≡◌, ℕ, refl, Option, Some, None}
use Rattle.std.specs.Prelude.{find, is_some}
use Rattle.push_model.specs.declared.step.Stage.TheVariants.{Nudge as AtNudge}
use Rattle.push_model.specs.declared.advance.Event.TheVariants.{Nudged}
use Rattle.push_model.specs.declared.ids.Op.{Op}
use Rattle.push_model.specs.declared.parts.FlightRow.{FlightRow}
use Rattle.push_model.specs.SessionKey.{SessionKey}
use Rattle.push_model.specs.Advances.{advance_of}
use Rattle.push_model.specs.FlightSteps.{flight, moved_on, nudge, nudge_to}
use Rattle.push_model.specs.Sessions.{Session, is_attached_at}
use Rattle.push_model.specs.Cells.{Cell, Saver}
use Rattle.push_model.specs.Outcomes.{Outcome, outcome}
use Rattle.push_model.specs.NodeSteps.{told}
use Rattle.push_model.specs.SaverSteps.{saver, saver_advance_of, saver_moved, saver_nudge, saver_nudge_to}
use Rattle.user_cell.specs.Nudges.{told_to}

-- the session was told or not, and then the saver moves on
abbrev after_told : Option Session → ℕ → SessionKey → Cell → Outcome
after_told x n s c = outcome (saver_moved (saver_advance_of (Nudged (is_some x)) (saver s (told n x c))) s (told n x c)) (told_to (is_some x) (told n x c))

told_by : (x : Option Session) (n a : ℕ) (s : SessionKey) (c : Cell) (v : Saver) → saver s c ≡ Some v → v.stage ≡ AtNudge n a →
    saver_nudge_to x n a s c ≡ after_told x n s c
told_by None n a s c v there stage = rw (there, stage) refl
told_by (Some x) n a s c v there stage = rw (there, stage) refl

pub saver_nudge_is : (n a : ℕ) (s : SessionKey) (c : Cell) (v : Saver) → saver s c ≡ Some v → v.stage ≡ AtNudge n a →
    saver_nudge s c ≡ after_told (find (is_attached_at n) c.sessions) n s c
saver_nudge_is n a s c v there stage = rw (there, stage) (told_by (find (is_attached_at n) c.sessions) n a s c v there stage)

-- ---- a flight that tells a session

abbrev after_flight_told : Option Session → ℕ → Op → Cell → Outcome
after_flight_told x n o c = outcome (moved_on (advance_of (Nudged (is_some x)) (flight o (told n x c))) o (told n x c)) (told_to (is_some x) (told n x c))

flight_told_by : (x : Option Session) (n a : ℕ) (o : Op) (c : Cell) (f : FlightRow) → flight o c ≡ Some f → f.stage ≡ AtNudge n a →
    nudge_to x n a o c ≡ after_flight_told x n o c
flight_told_by None n a o c f there stage = rw (there, stage) refl
flight_told_by (Some x) n a o c f there stage = rw (there, stage) refl

pub nudge_is : (n a : ℕ) (o : Op) (c : Cell) (f : FlightRow) → flight o c ≡ Some f → f.stage ≡ AtNudge n a →
    nudge o c ≡ after_flight_told (find (is_attached_at n) c.sessions) n o c
nudge_is n a o c f there stage = rw (there, stage) (flight_told_by (find (is_attached_at n) c.sessions) n a o c f there stage)
