-- A flight that stores its message, by the parts of its user.
use Rattle.std.proofs.Common.{◌≡◌, ℕ, Bool, true, false, List, Option, Some, None, refl}
use Rattle.push_model.specs.declared.ids.Op.{Op}
use Rattle.push_model.specs.declared.parts.Channel.{Channel}
use Rattle.push_model.specs.declared.parts.Row.{Row}
use Rattle.push_model.specs.declared.parts.FlightRow.{FlightRow}
use Rattle.push_model.specs.declared.step.Stage.TheVariants.{Store}
use Rattle.push_model.specs.declared.advance.Event.{Event}
use Rattle.push_model.specs.declared.standing.Verdict.{Verdict}
use Rattle.push_model.specs.declared.standing.Verdict.TheVariants.{Stays, Older, Full, Joins}
use Rattle.push_model.specs.Messages.{is_expired}
use Rattle.push_model.specs.Rows.{verdict}
use Rattle.push_model.specs.Cells.{Route, User, Cell}
use Rattle.push_model.specs.Advances.{advance_of}
use Rattle.push_model.specs.Outcomes.{Outcome, outcome}
use Rattle.push_model.specs.FlightSteps.{flight, moved_on, store}
use Rattle.user_cell.specs.Parts.{user_of, IsBare}
use Rattle.user_cell.specs.Storing.{is_meant, store_event, rows_after, stored_reply}

-- that happens to the flight, and the user is this afterwards
abbrev pub goes_on : Event → Op → Option User → Cell → Outcome
goes_on event o user c = outcome (record (moved_on (advance_of event (flight o c)) o c) { user = user }) (stored_reply (advance_of event (flight o c)))

-- the flight of that name is to store its message for the user of those parts
pub record IsStoring (o : Op) (f : FlightRow) (r : Option Route) (channels : List Channel) (rows : List Row) (c : Cell) : Type 0 where
  pub for_user : c.user ≡ user_of r channels rows
  pub found : flight o c ≡ Some f
  pub stage : f.stage ≡ Store

-- with a route row
routed_cases : (b e : Bool) (v : Verdict) (moment : ℕ) (o : Op) (f : FlightRow) (r : Route) (channels : List Channel) (rows : List Row) (c : Cell) →
    is_meant f channels ≡ b → is_expired moment f.message ≡ e → verdict f.message rows ≡ v →
    IsStoring o f (Some r) channels rows c →
    store moment o c ≡ goes_on (store_event moment f channels rows) o (user_of (Some r) channels (rows_after moment f channels rows)) c
routed_cases false e v moment o f r channels rows c eb ee ev is = rw (is.found, is.stage, is.for_user, eb) refl
routed_cases true true v moment o f r channels rows c eb ee ev is = rw (is.found, is.stage, is.for_user, eb, ee) refl
routed_cases true false Stays moment o f r channels rows c eb ee ev is = rw (is.found, is.stage, is.for_user, eb, ee, ev) refl
routed_cases true false Older moment o f r channels rows c eb ee ev is = rw (is.found, is.stage, is.for_user, eb, ee, ev) refl
routed_cases true false Full moment o f r channels rows c eb ee ev is = rw (is.found, is.stage, is.for_user, eb, ee, ev) refl
routed_cases true false Joins moment o f r channels rows c eb ee ev is = rw (is.found, is.stage, is.for_user, eb, ee, ev) refl

pub store_is : (moment : ℕ) (o : Op) (f : FlightRow) (r : Option Route) (channels : List Channel) (rows : List Row) (c : Cell) →
    IsBare r channels rows → IsStoring o f r channels rows c →
    store moment o c ≡ goes_on (store_event moment f channels rows) o (user_of r channels (rows_after moment f channels rows)) c
store_is moment o f None channels rows c h is =
    let none : is_meant f channels ≡ false = rw h.0 refl in
    rw (is.found, is.stage, is.for_user, none) refl
store_is moment o f (Some r) channels rows c h is = routed_cases _ _ _ moment o f r channels rows c refl refl refl is
