-- Facts of every world that is reached, beside the two laws.
use Rattle.std.specs.Prelude.{◌≡◌, ℕ, ◌+◌, ◌≤◌, ◌==◌, ◌&&◌, ◌||◌, not, nat_le, nat_lt, Bool, true, false, List, Option, Some, None, count_by, length}
use Rattle.std.specs.List.{list_any, list_all, flat_map, AllByRecursion}
use Rattle.push_model.specs.declared.ids.MsgId.{MsgId}
use Rattle.push_model.specs.declared.ids.Op.{Op}
use Rattle.push_model.specs.declared.ids.Token.{Token}
use Rattle.push_model.specs.declared.parts.Channel.{Channel}
use Rattle.push_model.specs.declared.parts.FlightRow.{FlightRow}
use Rattle.push_model.specs.declared.step.Stage.{Stage}
use Rattle.push_model.specs.declared.step.Stage.TheVariants.{Store, Reread, Nudge, ToldNudge, Clear}
use Rattle.push_model.specs.MessageValue.{MessageValue}
use Rattle.push_model.specs.Messages.{is_expired}
use Rattle.push_model.specs.Rows.{is_row, shares_topic}
use Rattle.push_model.specs.Sessions.{held, is_attached_at}
use Rattle.push_model.specs.Cells.{Cell, User, rows_of, channels_of, is_channel, is_token, is_flight}
use Rattle.push_model.specs.Covering.{is_saving}
use Rattle.push_model.specs.Images.{copies}
use Rattle.push_model.specs.Worlds.{World}

-- ---- the actors of a user

-- the user is there, and its route row isn't older
abbrev pub is_within : ℕ → Option User → Bool
is_within a None = false
is_within a (Some u) = nat_le a u.route.at

-- how many claims, sessions and savers have that node and moment
abbrev pub keyed : ℕ → ℕ → Cell → ℕ
keyed n a c =
    count_by (λ k. (k.node == n) && (k.at == a)) c.claims +
    (count_by (λ x. (x.node == n) && (x.at == a)) c.sessions + count_by (λ v. (v.node == n) && (v.at == a)) c.savers)

-- ---- stored rows, and flights whose message is to be stored

-- its ttl isn't 0, and hasn't passed
abbrev pub lasts : ℕ → MessageValue → Bool
lasts moment m = nat_lt 0 m.ask.terms.ttl && not (is_expired moment m)

-- the stages of a flight whose message is to be stored, or was
abbrev pub is_storing : Stage → Bool
is_storing Store = true
is_storing Reread = true
is_storing (Nudge n a) = true
is_storing (ToldNudge b n a) = true
is_storing (Clear n a) = true
is_storing stage = false

abbrev pub is_storable : FlightRow → Bool
is_storable f = not (is_storing f.stage) || nat_lt 0 f.message.ask.terms.ttl

-- ---- a cell, at that moment

-- Each claim, session and saver is of a user who is there, and isn't newer than the route row; no two have the same node
-- and moment, and no two sessions are attached at one node. Rows differ in their ids; no two have one channel and topic;
-- each has a channel of the user, a ttl above 0, and isn't expired. A session and a saver hold at most 500 messages, and a
-- saver that is past saving none. A flight at Store or later has a ttl above 0.
pub record IsSoundCell (moment : ℕ) (c : Cell) : Type 0 where
  pub claims : list_all (λ k. is_within k.at c.user) c.claims ≡ true
  pub sessions : list_all (λ x. is_within x.at c.user) c.sessions ≡ true
  pub savers : list_all (λ v. is_within v.at c.user) c.savers ≡ true
  pub keys : (n a : ℕ) → keyed n a c ≤ 1
  pub attached : (n : ℕ) → count_by (is_attached_at n) c.sessions ≤ 1
  pub rows : (i : MsgId) → count_by (is_row i) (rows_of c.user) ≤ 1
  pub topics : (m : MessageValue) → count_by (shares_topic m) (rows_of c.user) ≤ 1
  pub registered : list_all (λ r. list_any (is_channel r.message.chid) (channels_of c.user)) (rows_of c.user) ≡ true
  pub lasting : list_all (λ r. lasts moment r.message) (rows_of c.user) ≡ true
  pub storable : list_all is_storable c.flights ≡ true
  pub session_bound : list_all (λ x. nat_le (length (held x)) 500) c.sessions ≡ true
  pub saver_bound : list_all (λ v. nat_le (length v.held) 500) c.savers ≡ true
  pub saving : list_all (λ v. is_saving v.stage || (length v.held == 0)) c.savers ≡ true

-- ---- a shard

abbrev pub all_channels : World → List Channel
all_channels w = flat_map (λ e. channels_of e.1.user) w.cells

abbrev pub all_flights : World → List FlightRow
all_flights w = flat_map (λ e. e.1.flights) w.cells

-- Each cell is sound, and stands under its uaid; each message in it is the user's, and has a number below the next. No two
-- channels have one token, no two flights one name, and none one message.
pub record IsSound (w : World) : Type 0 where
  pub cells : AllByRecursion (λ e. IsSoundCell w.clock e.1) w.cells
  pub keys : AllByRecursion (λ e. e.0 ≡ e.1.uaid.0) w.cells
  pub own : AllByRecursion (λ e. AllByRecursion (λ m. m.uaid ≡ e.1.uaid) (copies e.1)) w.cells
  pub numbers : list_all (λ m. nat_lt m.id.number w.next) (flat_map (λ e. copies e.1) w.cells) ≡ true
  pub tokens : (t : Token) → count_by (is_token t) (all_channels w) ≤ 1
  pub ops : (o : Op) → count_by (is_flight o) (all_flights w) ≤ 1
  pub messages : (n : ℕ) → count_by (λ f. f.message.id.number == n) (all_flights w) ≤ 1
