-- The rounds of a loop, and its end.
use Rattle.std.specs.Prelude.{◌≡◌, ℕ, zero, suc, List, Option}
use Rattle.push_model.specs.DeskViews.{DeskView, Made, Calls, Written, Mails}
use Rattle.session_front.specs.declared.live.Place.{Place}
use Rattle.node_sessions.specs.Seats.{SeatView}
use Rattle.node_sessions.specs.Accepts.{AcceptMade}
use Rattle.node_sessions.specs.Mail.{MailRead}
use Rattle.node_sessions.specs.Pumps.{Served, PumpsMade}
use Rattle.node_sessions.specs.Closes.{SeatsClosed}

-- One wire was taken at most, then the mail of each shard was, and then sessions were pumped. So many wires were given before
-- and after.
pub record RoundMade (place : Place) (moment : Option ℕ) (given after : ℕ) (x z : Served) : Type 0 where
  pub met : List SeatView
  pub accept : AcceptMade given after x.seats met
  pub desks : DeskView
  pub heard : List SeatView
  pub mail : MailRead place.node x.desks.size x.desks desks met heard
  pub count : ℕ
  pub pumps : PumpsMade place moment count (record x { desks = desks; seats = heard }) z

abbrev pub RoundsMade : Place → Option ℕ → ℕ → ℕ → ℕ → Served → Served → Type 0
RoundsMade place moment zero given after x y = (after ≡ given) × (y ≡ x)
RoundsMade place moment (suc n) given after x z =
    (between : ℕ) × (y : Served) × RoundsMade place moment n given between x y × RoundMade place moment between after y z

-- Rounds were made, and then each session that was left was closed.
pub record LoopMade (place : Place) (moment : Option ℕ) (given after : ℕ) (x : Served) (desks : DeskView) (faults : ℕ) (drawn : Option (List ℕ)) : Type 0 where
  pub count : ℕ
  pub last : Served
  pub rounds : RoundsMade place moment count given after x last
  pub closed : SeatsClosed last.seats last.desks desks last.faults faults
  pub draw : drawn ≡ last.drawn

-- ---- what follows for the desks

-- the own entries that came are these, and so is the mail
pub record GoesOn (a b : DeskView) : Type 0 where
  pub made : List Made
  pub calls : Calls a b made
  pub written : List Written
  pub mail : Mails a b written
