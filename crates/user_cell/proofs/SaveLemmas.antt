-- What a saver does with its next message, by the parts of its user.
use Rattle.std.proofs.Common.{◌≡◌, ℕ, Bool, true, false, List, Option, Some, None, refl, sym}
use Rattle.std.specs.Prelude.{if◌then◌else◌, not, ◌==◌, ◌&&◌}
use Rattle.std.specs.List.{list_any}
use Rattle.std.proofs.lemmas.Bool.{eqb-true}
use Rattle.push_model.specs.declared.parts.Channel.{Channel}
use Rattle.push_model.specs.declared.parts.Row.{Row}
use Rattle.push_model.specs.declared.standing.Verdict.{Verdict}
use Rattle.push_model.specs.declared.standing.Verdict.TheVariants.{Stays, Older, Full, Joins}
use Rattle.push_model.specs.declared.reply.Reason.{Reason}
use Rattle.push_model.specs.declared.reply.Reason.TheVariants.{Channel as ChannelGone, Zero, Expired}
use Rattle.push_model.specs.declared.reply.Reply.TheVariants.{Saved, Left}
use Rattle.push_model.specs.SessionKey.{SessionKey}
use Rattle.push_model.specs.MessageValue.{MessageValue}
use Rattle.push_model.specs.Messages.{is_expired}
use Rattle.push_model.specs.Rows.{verdict}
use Rattle.push_model.specs.Cells.{Cell, Route, User, channels_of, is_channel, rows_of, with_stored}
use Rattle.push_model.specs.Outcomes.{outcome}
use Rattle.push_model.specs.Sessions.{Session, is_session}
use Rattle.push_model.specs.SaverSteps.{left, save_message, saved, new_saver as closed_saver}
use Rattle.message_rows.specs.Storing.{rows_with_put}
use Rattle.shutdown_save.specs.Savers.{new_saver}
use Rattle.user_cell.specs.Parts.{user_of, IsBare}
use Rattle.user_cell.specs.Saving.{left_by, left_for}

-- ---- it is left

left_cases : (b z e : Bool) (v : Verdict) (why : Reason) (moment : ℕ) (m : MessageValue) (s : SessionKey) (ms : List MessageValue) (c : Cell) →
    list_any (is_channel m.chid) (channels_of c.user) ≡ b → (m.ask.terms.ttl == 0) ≡ z → is_expired moment m ≡ e → verdict m (rows_of c.user) ≡ v →
    (if not b then Some ChannelGone else if z then Some Zero else if e then Some Expired else left_by v) ≡ Some why →
    save_message moment s m ms c ≡ outcome (left s ms c) (Left m.id why)
left_cases false z e v why moment m s ms c eb ez ee ev h = rw eb (cc)
left_cases true true e v why moment m s ms c eb ez ee ev h = rw (eb, ez) (cc)
left_cases true false true v why moment m s ms c eb ez ee ev h = rw (eb, ez, ee) (cc)
left_cases true false false Stays why moment m s ms c eb ez ee ev h = cc
left_cases true false false Older why moment m s ms c eb ez ee ev h = rw (eb, ez, ee, ev) (cc)
left_cases true false false Full why moment m s ms c eb ez ee ev h = cc
left_cases true false false Joins why moment m s ms c eb ez ee ev h = cc

pub left_is : (why : Reason) (moment : ℕ) (m : MessageValue) (s : SessionKey) (ms : List MessageValue) (c : Cell) →
    left_for moment m c.user ≡ Some why →
    save_message moment s m ms c ≡ outcome (left s ms c) (Left m.id why)
left_is why moment m s ms c h = left_cases _ _ _ _ why moment m s ms c refl refl refl refl h

-- ---- it is saved

-- where there is no user, there are no rows
pub rows_bare : (r : Option Route) (channels : List Channel) (rows : List Row) → IsBare r channels rows → rows_of (user_of r channels rows) ≡ rows
rows_bare None channels rows h = sym h.1
rows_bare (Some r) channels rows h = refl

abbrev pub with_put : Verdict → MessageValue → Option User → Option User
with_put Stays m user = user
with_put Older m user = user
with_put Full m user = with_stored m user
with_put Joins m user = with_stored m user

saved_cases : (b z e : Bool) (v : Verdict) (moment : ℕ) (m : MessageValue) (s : SessionKey) (ms : List MessageValue) (c : Cell) →
    list_any (is_channel m.chid) (channels_of c.user) ≡ b → (m.ask.terms.ttl == 0) ≡ z → is_expired moment m ≡ e → verdict m (rows_of c.user) ≡ v →
    (if not b then Some ChannelGone else if z then Some Zero else if e then Some Expired else left_by v) ≡ None →
    save_message moment s m ms c ≡ outcome (record (saved s m.id ms c) { user = with_put v m c.user }) (Saved m.id)
saved_cases false z e v moment m s ms c eb ez ee ev h = cc
saved_cases true true e v moment m s ms c eb ez ee ev h = cc
saved_cases true false true v moment m s ms c eb ez ee ev h = cc
saved_cases true false false Stays moment m s ms c eb ez ee ev h = rw (eb, ez, ee, ev) refl
saved_cases true false false Older moment m s ms c eb ez ee ev h = cc
saved_cases true false false Full moment m s ms c eb ez ee ev h = rw (eb, ez, ee, ev) refl
saved_cases true false false Joins moment m s ms c eb ez ee ev h = rw (eb, ez, ee, ev) refl

pub saved_is : (moment : ℕ) (m : MessageValue) (s : SessionKey) (ms : List MessageValue) (c : Cell) → left_for moment m c.user ≡ None →
    save_message moment s m ms c ≡ outcome (record (saved s m.id ms c) { user = with_put (verdict m (rows_of c.user)) m c.user }) (Saved m.id)
saved_is moment m s ms c h = saved_cases _ _ _ _ moment m s ms c refl refl refl refl h

pub put_user : (v : Verdict) (m : MessageValue) (r : Option Route) (channels : List Channel) (rows : List Row) →
    user_of r channels (rows_with_put v m rows) ≡ with_put v m (user_of r channels rows)
put_user Stays m r channels rows = refl
put_user Older m r channels rows = refl
put_user Full m None channels rows = refl
put_user Full m (Some r) channels rows = refl
put_user Joins m None channels rows = refl
put_user Joins m (Some r) channels rows = refl

-- there is a user
pub saved_bare : (moment : ℕ) (m : MessageValue) (r : Option Route) (channels : List Channel) (rows more : List Row) →
    left_for moment m (user_of r channels rows) ≡ None → IsBare r channels more
saved_bare moment m None channels rows more h = cc
saved_bare moment m (Some r) channels rows more h = tt

-- ---- the saver of a session that is closed

same_number : (a b : ℕ) → (a == b) ≡ true → a ≡ b
same_number a b e = eqb-true a b e

saver_same : (s : SessionKey) (x : Session) (p q : Bool) → (x.node == s.node) ≡ p → (x.at == s.at) ≡ q → (p && q) ≡ true →
    new_saver s x.direct x.inbox ≡ closed_saver x
saver_same s x true true e f h = rw (← same_number x.node s.node e, ← same_number x.at s.at f) refl
saver_same s x false q e f h = cc
saver_same s x true false e f h = cc

pub saver_of : (s : SessionKey) (x : Session) (direct inbox : List MessageValue) → is_session s x ≡ true → direct ≡ x.direct → inbox ≡ x.inbox →
    new_saver s direct inbox ≡ closed_saver x
saver_of s x direct inbox one d i = rw (d, i) (saver_same s x _ _ refl refl one)
