-- A flight on its way, as its route sees it.
use Rattle.std.specs.Prelude.{◌≡◌, ◌≢◌, ℕ, ◌<◌, ◌==◌, Bool, true, None, Some}
use Rattle.push_model.specs.declared.ids.Op.{Op}
use Rattle.push_model.specs.declared.ids.Token.{Token}
use Rattle.push_model.specs.declared.parts.FlightRow.{FlightRow}
use Rattle.push_model.specs.declared.step.Stage.{Stage}
use Rattle.push_model.specs.declared.step.Stage.TheVariants.{Direct, Told, Store, Reread, Nudge, ToldNudge, Clear}
use Rattle.push_model.specs.declared.reply.Reply.{Reply}
use Rattle.push_model.specs.declared.reply.Reply.TheVariants.{Stage as StageIs}
use Rattle.push_model.specs.AskValue.{AskValue}
use Rattle.push_model.specs.Replies.{is_begin_reply}
use Rattle.push_model.specs.Frames.{NoBegin, flight_at}
use Rattle.push_model.specs.OwnSteps.{IsBegun}
use Rattle.push_model.specs.DeskViews.{DeskView, IsHonest, own_entries, world_at}
use Rattle.endpoint_router.specs.declared.routing.Routing.{Routing}

-- The name of a flight is new on the shard k: its pass is the number that signs there, the world that was opened has no
-- flight of that name, and no own entry began one.
pub record IsFresh (v : DeskView) (k : ℕ) (o : Op) : Type 0 where
  pub number : v.number k ≡ o.pass
  pub opened : flight_at o (v.opened k) ≡ None
  pub own : NoBegin o (own_entries v k)

-- ---- stages, where the route last saw the flight

abbrev pub InDirect : Stage → Type 0
InDirect s = (n : ℕ) × (a : ℕ) × (s ≡ Direct n a)

abbrev pub InTold : Bool → Stage → Type 0
InTold here s = s ≡ Told here

abbrev pub InStore : Stage → Type 0
InStore s = s ≡ Store

abbrev pub InReread : Stage → Type 0
InReread s = s ≡ Reread

abbrev pub InNudge : Stage → Type 0
InNudge s = (n : ℕ) × (a : ℕ) × (s ≡ Nudge n a)

abbrev pub InToldNudge : Bool → Stage → Type 0
InToldNudge here s = (n : ℕ) × (a : ℕ) × (s ≡ ToldNudge here n a)

abbrev pub InClear : Stage → Type 0
InClear s = (n : ℕ) × (a : ℕ) × (s ≡ Clear n a)

-- the message is with the link, and may have been given
abbrev pub InGiving : Stage → Type 0
InGiving (Direct n a) = Unit {0}
InGiving (Told here) = Unit {0}
InGiving _ = ⊥

-- the nudge is with the link, and may have been made
abbrev pub InNudging : Stage → Type 0
InNudging (Nudge n a) = Unit {0}
InNudging (ToldNudge here n a) = Unit {0}
InNudging _ = ⊥

-- nothing is stored yet
abbrev pub InUnstored : Stage → Type 0
InUnstored Store = Unit {0}
InUnstored s = InGiving s

-- ---- the flight

-- At honest desks, the flight of that routing is there, at such a stage, and may be the route's: its pass is the number that
-- signs on its shard.
pub record IsFlying (v : DeskView) (x : Routing) (P : Stage → Type 0) : Type 0 where
  pub honest : IsHonest v
  pub within : x.shard < v.size
  pub number : v.number x.shard ≡ x.op.pass
  pub signs : (x.op.pass == v.number x.shard) ≡ true
  pub flight : FlightRow
  pub is : flight_at x.op (world_at v x.shard) ≡ Some flight
  pub stage : P flight.stage
  pub ttl : flight.message.ask.terms.ttl ≡ x.ttl

-- The reply to a Begin of a message with that ttl, and what it left.
pub record HasBegun (v : DeskView) (k : ℕ) (o : Op) (ttl : ℕ) (r : Reply) : Type 0 where
  pub honest : IsHonest v
  pub within : k < v.size
  pub number : v.number k ≡ o.pass
  pub signs : (o.pass == v.number k) ≡ true
  pub fits : is_begin_reply r ≡ true
  pub unused : (s : Stage) → r ≢ StageIs s
  pub token : Token
  pub ask : AskValue
  pub asked : ask.terms.ttl ≡ ttl
  pub begun : IsBegun o token ask r (flight_at o (world_at v k))
